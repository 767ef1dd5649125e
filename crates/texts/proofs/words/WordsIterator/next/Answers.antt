use Rattle.std.proofs.Common.{subst}
use Rattle.std.specs.Str.Iter.{split_whitespace_rest}
use Rattle.std.specs.Iterator.{YieldsFirstRef}
use Rattle.std.proofs.lemmas.Str.{IsUtf8-from_is_utf8, is_utf8-from_IsUtf8}
use Rattle.texts.specs.Words.{words_in}
use Rattle.texts.proofs.Cuts.{steps, goes}
use Rattle.texts.proofs.words.WordsIterator.next.Goals as goal

pub invariant_of-self : goal.invariant_of-self
invariant_of-self c = is_utf8-from_IsUtf8 _ (steps c.self.inside.rest c.next.result c.next.new.self (IsUtf8-from_is_utf8 _ c.self.invariant) c.next.ensures.steps).1

pub returns-clause-steps : goal.returns-clause-steps
returns-clause-steps c =
    subst (λ s. YieldsFirstRef (λ words. words) s c.next.result (words_in (split_whitespace_rest c.next.new.self))) c.self.view_is
    (steps c.self.inside.rest c.next.result c.next.new.self (IsUtf8-from_is_utf8 _ c.self.invariant) c.next.ensures.steps).0

pub returns-clause-goes : goal.returns-clause-goes
returns-clause-goes c = goes _ (λ ws. tt) _ _ _ (returns-clause-steps c)
