use Rattle.std.proofs.Common.{map, ap}
use Rattle.rows.specs.Shown.{nobodys}
use Rattle.rows.proofs.Sheets.{made_means}
use Rattle.table.proofs.catalogue.Catalogue.new.Goals as goal

pub returns : goal.returns
returns c = ap (map nobodys) (made_means c.args.plan.now c.args.states.now c.args.bytes.now c.states_fit-fits.result c.states_fit-fits.ensures)
