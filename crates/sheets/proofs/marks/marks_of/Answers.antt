use Rattle.std.proofs.Common.{◌≡◌, ◌+◌, ◌-◌, ◌<◌, false, [], ◌∷◌, ◌++◌, map, length, get_or, take, drop, replicate, sym, refl, ap, ◌∙◌, arith}
use Rattle.std.proofs.lemmas.Fn.{says_at}
use Rattle.std.proofs.lemmas.List.{length-set, take_all, take_more_set, map_more, drop-set-lt, drop-replicate}
use Rattle.std.proofs.lemmas.Grind.{drop_more_same}
use Rattle.sheets.proofs.marks.marks_of.Goals as goal

pub loop-i-preserved : goal.loop-i-preserved
loop-i-preserved g c =
    let xs = c.args.items.now in
    let i = c.loop-i.i in
    let x = c.index-items-i.result in
    let mark = c.test.result in
    let h : i < length xs = c.loop-i-test.true in
    let room : i < length c.loop-i.marks = omega arith in (
      drop-set-lt (i + 1) c.loop-i.marks i mark (omega arith) ∙ drop_more_same c.loop-i.marks (replicate 1024 false) i c.loop-i.invariant.0,
      length-set c.loop-i.marks i mark ∙ c.loop-i.invariant.1,
      λ p k.
          let says : mark ≡ p (get_or xs i x) = k x mark (says_at g.F.Fn c.test.ensures refl) ∙ ap p c.index-items-i.is in
          take_more_set c.loop-i.marks i mark room
          ∙ ap (λ ms. ms ++ mark ∷ []) (c.loop-i.invariant.2 p k)
          ∙ ap (λ m. map p (take i xs) ++ m ∷ []) says
          ∙ sym (map_more p xs i x h),
    )

pub returns-clause-marks : goal.returns-clause-marks
returns-clause-marks g c p k =
    let xs = c.args.items.now in
    let all : length xs ≡ c.loop-i.i = omega arith in
    ap (λ n. take n c.loop-i.marks) all ∙ c.loop-i.invariant.2 p k ∙ ap (map p) (take_all c.loop-i.i xs (omega arith))

pub returns-clause-rest : goal.returns-clause-rest
returns-clause-rest g c =
    let all : length c.args.items.now ≡ c.loop-i.i = omega arith in
    ap (λ n. drop n c.loop-i.marks) all ∙ c.loop-i.invariant.0 ∙ drop-replicate c.loop-i.i 1024 false ∙ ap (λ n. replicate (1024 - n) false) (sym all)
