use Rattle.std.proofs.Common.{◌≡◌, ℕ, ◌≤◌, List, ◌++◌, length, take, ap, ◌∙◌, arith}
use Rattle.std.proofs.lemmas.List.{drop_all, append-nil, length-map, length-take}
use Rattle.sheets.specs.Edits.{laid}
use Rattle.sheets.specs.Level.{numbers_of}
use Rattle.sheets.specs.Sound.{distinct}
use Rattle.sheets.proofs.sound.tables_differ.Goals as goal

-- as many as the slice has room for are laid over the whole of it
whole : (xs s ys : List ℕ) (n : ℕ) → ys ≡ laid xs (take n s) → n ≤ length xs → ys ≡ xs
whole xs s ys n e h = e ∙ ap (λ l. xs ++ l) (drop_all (length xs) (take n s) (omega (arith, length-take n s))) ∙ append-nil xs

pub returns : goal.returns
returns g c =
    let ts = c.args.tables.now in
    let ns = numbers_of ts in
    let listed : c.list_ids.new.ids ≡ ns = whole ns _ c.list_ids.new.ids (length ts) c.list_ids.ensures (omega (arith, length-map ts (λ t. t.number))) in
    c.numbers_differ.ensures.answer ∙ ap distinct listed
