-- Two lists of numbers laid over an id sheet one after the other.
use Rattle.std.proofs.Common.{◌≡◌, ℕ, ◌+◌, ◌-◌, List, [], ◌++◌, length, take, drop, sym, ap, ◌∙◌, arith}
use borrow.Rule.Slice.PartMut.{put_mid}
use Rattle.std.proofs.lemmas.List.{append-nil, append_assoc, drop_all, drop-drop, length-append, length-drop, take_rest}
use Rattle.sheets.specs.Edits.{laid}
use Rattle.sheets.proofs.Laid.{take_laid, drop_laid}

-- the second goes into what lies behind the first
pub laid_behind : (f h s xs ys : List ℕ) (a : ℕ) → a ≡ length f → xs ≡ laid f s → ys ≡ laid h (take (length xs - a) (drop a xs)) → put_mid a (length xs - a) xs ys ≡ laid (f ++ h) s
laid_behind f h s xs ys a e is then =
    let front : take a xs ≡ f = ap (take a) is ∙ take_laid f s a e in
    let rest : drop a xs ≡ drop a s = ap (drop a) is ∙ drop_laid f s a (omega arith) in
    let part : ys ≡ h ++ drop (length h) (drop a s) = then ∙ ap (laid h) (take_rest xs a ∙ rest) in
    let end : drop (length xs - a) (drop a xs) ≡ [] = drop_all (length xs - a) (drop a xs) (omega (arith, length-drop a xs)) in
    let far : a + length h ≡ length (f ++ h) = omega (arith, length-append f h) in
    ap (λ l. take a xs ++ (ys ++ l)) end ∙ ap (λ l. take a xs ++ l) (append-nil ys ∙ part) ∙ ap (λ l. l ++ (h ++ drop (length h) (drop a s))) front
    ∙ ap (λ l. f ++ (h ++ l)) (drop-drop (length h) a s ∙ ap (λ n. drop n s) far) ∙ sym (append_assoc f h (drop (length (f ++ h)) s))
