use Rattle.std.proofs.Common.{◌≡◌, length, take, rules}
use Rattle.std.proofs.lemmas.Bool.Decides.{Decides-at}
use Rattle.sheets.specs.Sound.{sheet_ok}
use Rattle.sheets.proofs.Soundness.{test_decides}
use Rattle.sheets.proofs.sound.is_sound.Goals as goal

pub returns-then-blob_total-le-MOST_BYTES-clause-words : goal.returns-then-blob_total-le-MOST_BYTES-clause-words
returns-then-blob_total-le-MOST_BYTES-clause-words g c =
    let sheet = c.args.sheet.now in
    let standing = c.args.standing in
    let blobs = c.args.blob_total in
    let test : c.is_some_and.result ≡ sheet_ok g.K.KeyKind.ranks (length sheet) standing blobs (take standing sheet) = search rules in
    Decides-at _ _ test (test_decides g.met.K.KeyKind.total (length sheet) standing blobs (take standing sheet))
