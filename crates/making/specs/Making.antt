-- The check that a store passes before a drive is made over it. Assumes nothing.
use Rattle.std.specs.Prelude.{ℕ, cond, List, Some, None, Ok, Err, Option, Result}
use Rattle.block.specs.declared.idn.Idn.{Idn}
use Rattle.block.specs.Blocks.{Block}
use Rattle.refusal.specs.declared.Refusal.{Refusal}
use Rattle.refusal.specs.declared.Refusal.TheVariants.{Address, Order, Attribute, Content, Demanded}
use Rattle.making.specs.Rules.{address_fits, first_unordered, first_failing, attribute_fits, content_fits, lowest_unmet}

-- a rule's refusal where it found a block, else what the next rules say
abbrev pub or_next : (Idn → Refusal) → Option Idn → Result (Unit {0}) Refusal → Result (Unit {0}) Refusal
or_next refusal None next = next
or_next refusal (Some idn) next = Err (refusal idn)

-- the verdict on the blocks, where the address fits
abbrev pub blocks_verdict : List Block → Result (Unit {0}) Refusal
blocks_verdict blocks =
    or_next Order (first_unordered 0 blocks)
    (or_next Attribute (first_failing attribute_fits blocks)
    (or_next Content (first_failing (content_fits blocks) blocks) (or_next Demanded (lowest_unmet blocks) (Ok tt))))

-- the first rule that is broken: address, order, attribute, content, demanded blocks
unfoldable pub making_verdict : ℕ → List Block → Result (Unit {0}) Refusal
making_verdict address blocks = cond (address_fits address) (blocks_verdict blocks) (Err Address)
