-- The IDNs that every drive has, each by its name. Assumes nothing.
use Rattle.std.specs.Prelude.{ℕ, Bool, ◌||◌, ◌==◌}

-- the cycle of the control unit
abbrev pub t_ncyc : ℕ
t_ncyc = 1

-- the cycle of the ring
abbrev pub t_scyc : ℕ
t_scyc = 2

-- the earliest start of the drive's telegram
abbrev pub t1min : ℕ
t1min = 3

-- the least time that the drive needs to take the feedback
abbrev pub t5 : ℕ
t5 = 5

-- the start of the drive's telegram
abbrev pub t1 : ℕ
t1 = 6

-- the moment at which the feedback is taken
abbrev pub t4 : ℕ
t4 = 7

-- where the drive's part begins in the master's data telegram
abbrev pub record_position : ℕ
record_position = 9

-- the length of the master's data telegram
abbrev pub mdt_length : ℕ
mdt_length = 10

abbrev pub class_1_diagnostic : ℕ
class_1_diagnostic = 11

abbrev pub interface_status : ℕ
interface_status = 14

-- the blocks that have to be valid before phase 4
abbrev pub phase_4_blocks : ℕ
phase_4_blocks = 19

-- the blocks that were found invalid on the way to phase 3
abbrev pub invalid_for_phase_3 : ℕ
invalid_for_phase_3 = 21

-- the blocks that were found invalid on the way to phase 4
abbrev pub invalid_for_phase_4 : ℕ
invalid_for_phase_4 = 22

abbrev pub diagnostic_text : ℕ
diagnostic_text = 95

abbrev pub phase_3_check : ℕ
phase_3_check = 127

abbrev pub phase_4_check : ℕ
phase_4_check = 128

-- the timings that the drive tells
abbrev pub is_drive_timing : ℕ → Bool
is_drive_timing n = n == t1min || n == t5

-- the timings that the master sets
abbrev pub is_master_timing : ℕ → Bool
is_master_timing n =
    (n == t_ncyc) || (n == t_scyc || (n == t1 || (n == t4 || (n == record_position || n == mdt_length))))

-- the timings of the ring
abbrev pub is_timing : ℕ → Bool
is_timing n = is_drive_timing n || is_master_timing n
