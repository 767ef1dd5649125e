use Rattle.std.proofs.Common.{◌++◌, rules, sym, ap, ◌∙◌, arith, codes, ◌≢◌}
use Rattle.std.proofs.lemmas.Str.{encode_ascii}
use Rattle.scripts.proofs.Bounds.{no_bound}
use Rattle.scripts.proofs.Lackings.{no_mark}
use Rattle.scripts.proofs.strategy.read_bound.Goals as goal

pub returns-clause-says : goal.returns-clause-says
returns-clause-says g c =
    let star : c.args.word.now ≢ codes "*" = search rules in
    no_bound g.K.KeyText.says c.args.word.now star
    (λ rest e. c.in_default.ensures.cases rest (e ∙ ap (λ mark. mark ++ rest) (sym (encode_ascii 91 (omega arith)))))
    (λ rest e. c.in_default-strip_prefix.ensures.cases rest (e ∙ ap (λ mark. mark ++ rest) (sym (encode_ascii 40 (omega arith)))))

pub returns-clause-names : goal.returns-clause-names
returns-clause-names g c =
    sym (no_mark g.K.KeyText.wanted c.args.word.now
    (λ rest e. c.in_default.ensures.cases rest (e ∙ ap (λ mark. mark ++ rest) (sym (encode_ascii 91 (omega arith)))))
    (λ rest e. c.in_default-strip_prefix.ensures.cases rest (e ∙ ap (λ mark. mark ++ rest) (sym (encode_ascii 40 (omega arith))))))
