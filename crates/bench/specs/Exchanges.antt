-- The bench's drive, and its exchanges by the rules of the drive. Assumes nothing.
use Rattle.std.specs.Prelude.{ℕ, ◌+◌, ◌-◌, ◌≤◌, List, [], ◌∷◌, ◌++◌, replicate, Some, None, Option, Ok, Err, Result}
use Rattle.std.proofs.Math.Seq.{paste}
use Rattle.refusal.specs.declared.Refusal.{Refusal}
use Rattle.refusal.specs.declared.Refusal.TheVariants.{PhaseZero}
use Rattle.block.specs.declared.keeper.Keeper.{Keeper}
use Rattle.block.specs.declared.keeper.Keeper.TheVariants.{Master, Drive, Channel, Nobody}
use Rattle.block.specs.declared.limits.Limits.{Limits}
use Rattle.block.specs.Blocks.{Block}
use Rattle.service.specs.Words.{bytes_of}
use Rattle.drive.specs.Machines.{Machine}
use Rattle.drive.specs.Telegrams.{mst_refusal, mst_after, mdt_size, mdt_address, record_start, mdt_refusal, mdt_after}
use Rattle.drive.specs.Answers.{at_refusal, status_word}
use Rattle.bench.specs.declared.line.Line.{Line}
use Rattle.bench.specs.declared.line.Line.TheVariants.{Info, Record}
use Rattle.bench.specs.declared.line.Answer.{Answer}

-- a block without name and unit
abbrev pub plain_block : ℕ → Keeper → ℕ → ℕ → Option Limits → ℕ → List ℕ → Block
plain_block idn keeper status attribute limits most content = record { idn = idn; keeper = keeper; status = status; name = []; attribute = attribute; unit = []; limits = limits; most = most; content = content }

-- a timing at its lower limit; the master's are invalid at first
abbrev pub timing : ℕ → Keeper → ℕ → ℕ → ℕ → Block
timing idn keeper status lower upper = plain_block idn keeper status 0x0011_0001 (Some (record { lower = lower; upper = upper })) 0 (bytes_of lower)

abbrev pub word_block : ℕ → Keeper → ℕ → Block
word_block idn keeper attribute = plain_block idn keeper 0 attribute None 0 (0 ∷ 0 ∷ [])

abbrev pub empty_list : ℕ → Keeper → ℕ → Block
empty_list idn keeper attribute = plain_block idn keeper 0 attribute None 60 []

-- just the demanded blocks
abbrev pub bench_blocks : List Block
bench_blocks =
    timing 1 Master 0x0100 62 65500
    ∷ timing 2 Master 0x0100 62 65500
    ∷ timing 3 Drive 0 0 65500
    ∷ timing 5 Drive 0 0 65500
    ∷ timing 6 Master 0x0100 0 65500
    ∷ timing 7 Master 0x0100 0 65500
    ∷ timing 9 Master 0x0100 1 61
    ∷ timing 10 Master 0x0100 4 64
    ∷ word_block 11 Drive 0x0001_0001
    ∷ word_block 14 Channel 0x0001_0001
    ∷ empty_list 19 Nobody 0x0055_0001
    ∷ empty_list 21 Channel 0x0055_0001
    ∷ empty_list 22 Channel 0x0055_0001
    ∷ empty_list 95 Channel 0x0044_0001
    ∷ word_block 127 Master 0x0009_0001
    ∷ word_block 128 Master 0x0009_0001
    ∷ []

-- an MDT with the record in its place and the rest of its data 0
abbrev pub mdt_of : Machine → ℕ → ℕ → List ℕ
mdt_of m control info =
    paste (mdt_address m ∷ replicate (mdt_size m - 1) 0) (record_start m) (bytes_of control ++ bytes_of info) 4

-- the telegram of a line: an MST or an MDT
abbrev pub telegram_of : Machine → Line → List ℕ
telegram_of m (Info info) = 255 ∷ info ∷ []
telegram_of m (Record control info) = mdt_of m control info

-- the record of a line has its place in an MDT, as the timing rules demand before phase 3
abbrev pub has_place : Machine → Type 0
has_place m = record_start m + 4 ≤ mdt_size m

-- a line has its telegram: an MST always, a record where it has its place
abbrev pub has_telegram : Machine → Line → Type 0
has_telegram m (Info info) = Unit {0}
has_telegram m (Record control info) = has_place m

abbrev pub answer : ℕ → ℕ → Answer
answer status info = record { status = status; info = info }

-- what the next AT shows
abbrev pub shown_at : Option Refusal → Machine → Result Answer Refusal
shown_at (Some r) m = Err r
shown_at None m = Ok (answer (status_word m 0) m.service.link.info)

abbrev pub shown_after : Option Refusal → Machine → Result Answer Refusal
shown_after (Some r) m = Err r
shown_after None m = shown_at (at_refusal m 5) m

-- the drive after a telegram of a line's kind, and what is shown
abbrev pub after_sent : Machine → Line → List ℕ → Machine
after_sent m (Info info) t = mst_after m t
after_sent m (Record control info) t = mdt_after m t

abbrev pub shown_sent : Machine → Line → List ℕ → Result Answer Refusal
shown_sent m (Info info) t = shown_after (mst_refusal t) (mst_after m t)
shown_sent m (Record control info) t = shown_after (mdt_refusal m t) (mdt_after m t)

-- the drive after a line, and what is shown
abbrev pub after_line : Machine → Line → Machine
after_line m l = after_sent m l (telegram_of m l)

abbrev pub shown_of : Machine → Line → Result Answer Refusal
shown_of m l = shown_sent m l (telegram_of m l)

-- a run of lines
abbrev pub exchanges : Machine → List Line → List (Result Answer Refusal)
exchanges m [] = []
exchanges m (l ∷ ls) = shown_of m l ∷ exchanges (after_line m l) ls

-- the bench's first ten lines, and what they show
abbrev pub first_lines : List Line
first_lines =
    Info 0 ∷ Info 1 ∷ Record 0x0001 0 ∷ Info 2 ∷ Record 0x000F 2 ∷ Record 0x0018 0 ∷ Record 0x001D 0 ∷ Record 0x003E 0x03E8
    ∷ Record 0x003F 0x003D ∷ Record 0x000F 2 ∷ []

abbrev pub first_shown : List (Result Answer Refusal)
first_shown =
    Err PhaseZero ∷ Ok (answer 0 0) ∷ Ok (answer 1 0) ∷ Ok (answer 0 0) ∷ Ok (answer 1 0) ∷ Ok (answer 0 1) ∷ Ok (answer 1 0x0011)
    ∷ Ok (answer 0 0) ∷ Ok (answer 5 0x7006) ∷ Ok (answer 5 0x7006) ∷ []
