-- The five timing rules, and the timings that S-0-0127 names. Assumes nothing.
use Rattle.std.specs.Prelude.{ℕ, ◌+◌, ◌%◌, Bool, false, cond, not, ◌&&◌, ◌||◌, List, [], ◌∷◌, ◌++◌, is_some, Some, None, Option, ◌==◌, nat_le, nat_lt}
use Rattle.channel.specs.declared.timing.Timings.{Timings}

-- (1) the ring's cycle time is 62, 125, or a multiple of 250 from 250 to 65,500
abbrev pub cycle_time : ℕ → Bool
cycle_time s = s == 62 || (s == 125 || (s % 250 == 0 && (nat_le 250 s && nat_le s 65500)))

-- (2) the control's cycle time is positive and a whole multiple of the ring's
abbrev pub cycle_ratio : ℕ → ℕ → Bool
cycle_ratio n s = nat_lt 0 n && (nat_lt 0 s && n % s == 0)

-- (3) the AT's time slot: not before the earliest, and within the cycle
abbrev pub send_time : ℕ → ℕ → ℕ → Bool
send_time least t1 s = nat_le least t1 && nat_lt t1 s

-- (4) the feedback is taken early enough
abbrev pub feedback_time : ℕ → ℕ → ℕ → Bool
feedback_time t4 t5 s = nat_lt (t4 + t5) s

-- (5) the drive's record lies within the MDT
abbrev pub record_place : ℕ → ℕ → Bool
record_place position size = nat_le 1 position && nat_le (position + 3) size

-- a rule is tested when all its timings are valid
abbrev pub fails1 : (ℕ → Bool) → Option ℕ → Bool
fails1 rule None = false
fails1 rule (Some x) = not (rule x)

abbrev pub fails2 : (ℕ → ℕ → Bool) → Option ℕ → Option ℕ → Bool
fails2 rule None y = false
fails2 rule (Some x) None = false
fails2 rule (Some x) (Some y) = not (rule x y)

abbrev pub fails3 : (ℕ → ℕ → ℕ → Bool) → Option ℕ → Option ℕ → Option ℕ → Bool
fails3 rule None y z = false
fails3 rule (Some x) None z = false
fails3 rule (Some x) (Some y) None = false
fails3 rule (Some x) (Some y) (Some z) = not (rule x y z)

-- an IDN, if it is to be named
abbrev pub named : ℕ → Bool → List ℕ
named idn test = cond test (idn ∷ []) []

-- the timings to name, ascending: each that is invalid, and each whose rule fails
abbrev pub timing_names : Timings → List ℕ
timing_names t =
    named 1 (not (is_some t.ncyc) || fails2 cycle_ratio t.ncyc t.scyc)
    ++ (named 2 (not (is_some t.scyc) || fails1 cycle_time t.scyc)
    ++ (named 3 (not (is_some t.least))
    ++ (named 5 (not (is_some t.t5))
    ++ (named 6 (not (is_some t.t1) || fails3 send_time t.least t.t1 t.scyc)
    ++ (named 7 (not (is_some t.t4) || fails3 feedback_time t.t4 t.t5 t.scyc)
    ++ (named 9 (not (is_some t.position) || fails2 record_place t.position t.size)
    ++ named 10 (not (is_some t.size))))))))
