use Rattle.std.proofs.Common.{◌≡◌, ◌/◌, ◌%◌, arith}
use Rattle.drive.proofs.drive.Drive.at_bytes.Goals as goal

pub returns : goal.returns
returns g c =
    let status : c.status_word.result / 256 % 256 ≡ c.status_word.result / 256 = omega arith in
    let info : c.info.result / 256 % 256 ≡ c.info.result / 256 = omega arith in
    rw (c.to_le_bytes.ensures, c.to_le_bytes-2.ensures, status, info, c.status_word.ensures, c.info.ensures)
