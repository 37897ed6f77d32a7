use Rattle.std.proofs.Common.{rules}
use Rattle.rows.proofs.Sheets.{sheet_marks}
use Rattle.rows.proofs.sheet.Sheet.may_mark.Goals as goal

pub returns : goal.returns
returns c = sheet_marks c.args.self.now c.args.place c.get.result c.is_some_and.result c.get.ensures.lookup.3 (search rules)
