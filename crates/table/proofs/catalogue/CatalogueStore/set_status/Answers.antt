use Rattle.std.proofs.Common.{sym}
use Rattle.table.proofs.Disowned.{never_marked}
use Rattle.table.proofs.catalogue.CatalogueStore.set_status.Goals as goal

pub returns-clause-value : goal.returns-clause-value
returns-clause-value c = sym (never_marked _ c.args._place)
