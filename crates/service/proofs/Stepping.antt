-- A step on an element from 2 to 6. Assumes nothing.
use Rattle.std.proofs.Common.{◌≡◌, ℕ, Bool, true, false, Some, Option}
use Rattle.std.specs.List.{slice_get}
use Rattle.block.specs.declared.idn.Idn.{Idn}
use Rattle.channel.specs.declared.control.Element.{Element}
use Rattle.channel.specs.declared.control.Element.TheVariants.{Closing, Number, Name, Attribute, Unit, Lower, Upper, Content}
use Rattle.service.specs.States.{State}
use Rattle.service.specs.Steps.{with_block, read_step, refusing_step, step_on}

-- elements 2 to 6
abbrev pub is_part : Element → Bool
is_part Closing = false
is_part Number = false
is_part Name = true
is_part Attribute = true
is_part Unit = true
is_part Lower = true
is_part Upper = true
is_part Content = false

-- elements 2 to 7
abbrev pub is_read : Element → Bool
is_read Closing = false
is_read Number = false
is_read Name = true
is_read Attribute = true
is_read Unit = true
is_read Lower = true
is_read Upper = true
is_read Content = true

module _ (phase : ℕ) (out : Option Idn) (s : State) (ahs : Bool) (place info : ℕ) (open' : s.link.place ≡ Some place) where
  written_on : (e : Element) (last : Bool) → is_part e ≡ true
      → with_block s ahs (slice_get s.blocks place) (refusing_step s ahs e) ≡ step_on phase out s ahs e true last info
  written_on Closing last p = absurd (cc)
  written_on Number last p = absurd (cc)
  written_on Name last p = rw open'
  written_on Attribute last p = rw open'
  written_on Unit last p = rw open'
  written_on Lower last p = rw open'
  written_on Upper last p = rw open'
  written_on Content last p = absurd (cc)

  read_on : (e : Element) (last : Bool) → is_read e ≡ true
      → with_block s ahs (slice_get s.blocks place) (λ b. read_step s ahs e b last) ≡ step_on phase out s ahs e false last info
  read_on Closing last p = absurd (cc)
  read_on Number last p = absurd (cc)
  read_on Name last p = rw open'
  read_on Attribute last p = rw open'
  read_on Unit last p = rw open'
  read_on Lower last p = rw open'
  read_on Upper last p = rw open'
  read_on Content last p = rw open'

  -- the same, where the control word says that the step writes
  pub refused_on : (e e' : Element) (write last last' : Bool) → is_part e ≡ true → e ≡ e' → true ≡ write → last ≡ last'
      → with_block s ahs (slice_get s.blocks place) (refusing_step s ahs e) ≡ step_on phase out s ahs e' write last' info
  refused_on e e' write last last' p ee ew el = rw (← ee, ← ew, ← el) (written_on e last p)

  pub taken_on : (e e' : Element) (write last last' : Bool) → is_read e ≡ true → e ≡ e' → false ≡ write → last ≡ last'
      → with_block s ahs (slice_get s.blocks place) (λ b. read_step s ahs e b last) ≡ step_on phase out s ahs e' write last' info
  taken_on e e' write last last' p ee ew el = rw (← ee, ← ew, ← el) (read_on e last p)
