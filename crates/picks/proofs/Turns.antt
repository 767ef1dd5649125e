-- How far both levels have been read, one table further.
use Rattle.std.proofs.Common.{◌≡◌, ℕ, zero, suc, ◌+◌, ◌^◌, ◌<◌, ◌≤◌, Bool, true, ◌⊎◌, List, length, sum_by, Ordering, sym, refl, ap, ◌∙◌, inl, inr, arith}
use Rattle.std.proofs.lemmas.List.Sums.{sum_by-take-le}
use Rattle.std.proofs.lemmas.Bool.{cases_lt}
use Rattle.keys.specs.declared.key_range.KeyRange.{KeyRange}
use Rattle.keys.specs.KeyKind.{Laws}
use Rattle.runs.specs.Search.{Min, Max, Before, UpTo}
use Rattle.runs.specs.Run.{sorted}
use Rattle.picks.specs.declared.edges.Edge.{Edge}
use Rattle.picks.specs.declared.fronts.Front.{Front}
use Rattle.picks.specs.Edges.{place, begun, ended, left_of, right_of, LeftFrom, Light, Opens}
use Rattle.picks.specs.Fronts.{front}
use Rattle.picks.proofs.Counts.{sum_mono}
use Rattle.picks.proofs.Places.{place_mono, place_within}

pub same_edge : (a b : Edge) → a.next ≡ b.next → a.curr ≡ b.curr → a ≡ b
same_edge a b e f = ap (λ (x : Front). record { next = x; curr = a.curr }) e ∙ ap (λ (x : Front). record { next = b.next; curr = x }) f

module _ {K T : Type 0} {cmp : K → K → Ordering} (laws : Laws cmp) (spans : T → KeyRange K) (curr next : List T) where
  pub ended_none : ended cmp spans curr next 0 ≡ 0
  unfolding ended
  ended_none = refl

  pub ended_last : (e l : ℕ) → e ≡ l + 1 → ended cmp spans curr next e ≡ place cmp spans Max Max UpTo curr next l
  unfolding ended
  ended_last zero l h = absurd (omega arith)
  ended_last (suc k) l h = ap (place cmp spans Max Max UpTo curr next) (let q : k ≡ l = omega arith in q)

  pub ended_within : (e : ℕ) → ended cmp spans curr next e ≤ length curr
  unfolding ended
  ended_within zero = omega arith
  ended_within (suc l) = place_within laws spans Max Max UpTo curr next l

  module _ (next_ok : sorted cmp spans next ≡ true) where
    pub ended_mono : (i j : ℕ) → i ≤ j → ended cmp spans curr next i ≤ ended cmp spans curr next j
    unfolding ended
    ended_mono zero j h = omega arith
    ended_mono (suc i) zero h = absurd (omega arith)
    ended_mono (suc i) (suc j) h = place_mono laws spans Max Max UpTo curr next i j next_ok (omega arith)

    begun_next : (s : ℕ) → begun cmp spans curr next s ≤ begun cmp spans curr next (s + 1)
    begun_next s = place_mono laws spans Min Min Before curr next s (s + 1) next_ok (omega arith)

    module _ (bytes : T → ℕ) (cm nm : List Bool) where
      pub left_none : (edge : Edge) → edge.next ≡ front bytes next nm 0 → edge.curr ≡ front bytes curr cm 0 → LeftFrom cmp spans curr next bytes cm nm 0 edge
      left_none edge e f =
          let a : edge.next.at ≡ 0 = ap (λ (x : Front). x.at) e in
          let b : edge.curr.at ≡ 0 = ap (λ (x : Front). x.at) f in
          record { next_is = e ∙ ap (front bytes next nm) (sym a); next_up = omega arith; curr_is = f ∙ ap (front bytes curr cm) (sym b); curr_up = omega arith }

      pub left_next : (s : ℕ) (edge : Edge) → edge ≡ left_of cmp spans curr next bytes cm nm s → LeftFrom cmp spans curr next bytes cm nm (s + 1) edge
      left_next s edge e =
          let f = ap (λ (x : Edge). x.next) e in
          let k = ap (λ (x : Edge). x.curr) e in
          let a : edge.next.at ≡ s = ap (λ (x : Front). x.at) f in
          let b : edge.curr.at ≡ begun cmp spans curr next s = ap (λ (x : Front). x.at) k in
          record { next_is = f ∙ ap (front bytes next nm) (sym a); next_up = omega arith; curr_is = k ∙ ap (front bytes curr cm) (sym b); curr_up = omega (arith, begun_next s) }

      pub light_none : (s : ℕ) → Light cmp spans curr next bytes cm nm s 0
      light_none s = record { within = omega arith; light = λ k l m. absurd (omega arith) }

      -- what weighs nothing beside the left edge of s weighs nothing beside the next one
      pub light_next : (s e : ℕ) → Light cmp spans curr next bytes cm nm s e → Light cmp spans curr next bytes cm nm (s + 1) e
      light_next s e p = record { within = p.within; light = λ k l m. omega (arith, p.light k (omega arith) m, sum_mono bytes curr (begun cmp spans curr next s) (begun cmp spans curr next (s + 1)) (begun_next s)) }

      pub light_more : (s e : ℕ) → Light cmp spans curr next bytes cm nm s e → e < length next
          → (e ≤ s) ⊎ ((right_of cmp spans curr next bytes cm nm e).curr.sum ≤ (left_of cmp spans curr next bytes cm nm s).curr.sum) → Light cmp spans curr next bytes cm nm s (e + 1)
      light_more s e p h why = record {
        within = omega arith;
        light = λ k l m. elim (cases_lt k e) [
          | inl x ↦ p.light k l x
          | inr x ↦ elim why [
            | inl y ↦ absurd (omega arith)
            | inr y ↦ omega (arith, y, ap (λ j. (right_of cmp spans curr next bytes cm nm j).curr.sum) (let q : k ≡ e = omega arith in q))
          ]
        ];
      }

      -- the right edge of a window that contains any weight lies beyond its left edge
      pub edges_open : (s e : ℕ) (l r : Edge) → l ≡ left_of cmp spans curr next bytes cm nm s → r ≡ right_of cmp spans curr next bytes cm nm e → s < e → l.curr.sum < r.curr.sum
          → sum_by bytes curr ≤ 2 ^ 53 → sum_by bytes next ≤ 2 ^ 53 → Opens l.next r.next × Opens l.curr r.curr
      edges_open s e l r p q h w a b =
          let x = begun cmp spans curr next s in
          let y = ended cmp spans curr next e in
          let ln = ap (λ (z : Edge). z.next) p in
          let rn = ap (λ (z : Edge). z.next) q in
          let lc = ap (λ (z : Edge). z.curr) p in
          let rc = ap (λ (z : Edge). z.curr) q in
          let ls = ap (λ (z : Front). z.sum) lc in
          let rs = ap (λ (z : Front). z.sum) rc in
          let at : x ≤ y = elim (cases_lt y x) [ inl u ↦ absurd (omega (arith, ls, rs, sum_mono bytes curr y x (omega arith))) | inr u ↦ u ] in (
            record {
              at = omega (arith, ap (λ (z : Front). z.at) ln, ap (λ (z : Front). z.at) rn);
              sum = omega (arith, ap (λ (z : Front). z.sum) ln, ap (λ (z : Front). z.sum) rn, sum_mono bytes next s e (omega arith));
              small = omega (arith, ap (λ (z : Front). z.sum) rn, sum_by-take-le bytes next e);
            },
            record {
              at = omega (arith, ap (λ (z : Front). z.at) lc, ap (λ (z : Front). z.at) rc);
              sum = omega arith;
              small = omega (arith, rs, sum_by-take-le bytes curr y);
            },
          )
