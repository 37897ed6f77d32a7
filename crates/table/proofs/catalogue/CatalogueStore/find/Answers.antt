use Rattle.std.proofs.Common.{sym, ap, ◌∙◌}
use Rattle.block.specs.Lists.{place_of}
use Rattle.rows.specs.Sheets.{sheet_blocks}
use Rattle.table.proofs.Disowned.{place-nobodys}
use Rattle.table.proofs.catalogue.CatalogueStore.find.Goals as goal

pub returns : goal.returns
returns c = c.find.ensures ∙ sym (place-nobodys (sheet_blocks c.sheet.result) c.args.idn.0) ∙ ap (λ bs. place_of bs c.args.idn.0) c.sheet.ensures
