use Rattle.std.proofs.Common.{length, sym}
use Rattle.table.proofs.Disowned.{never_replaced}
use Rattle.table.proofs.catalogue.CatalogueStore.replace.Goals as goal

pub returns-clause-value : goal.returns-clause-value
returns-clause-value c = sym (never_replaced _ c.args._place (length c.args._bytes.now))
