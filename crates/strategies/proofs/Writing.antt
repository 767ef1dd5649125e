-- The steps of a loop that writes the numbers of the tables that pass a test into the front of a list, and weighs them.
use Rattle.std.proofs.Common.{◌≡◌, ℕ, ◌+◌, ◌<◌, ◌≤◌, Bool, true, false, not, List, [], ◌∷◌, ◌++◌, length, get_or, take, drop, set, filter, sym, refl, ap, ◌∙◌, arith}
use Rattle.std.proofs.lemmas.List.Filters.{sum_by-filter_both}
use Rattle.std.proofs.lemmas.List.{take_more_set, drop-set-lt, length-set, append_assoc, length-map, drop-drop}
use Rattle.runs.specs.declared.table.Table.{Table}
use Rattle.sheets.specs.Level.{numbers_of, size_of}
use Rattle.strategies.specs.declared.naming.Named.{Named}
use Rattle.strategies.proofs.Weighing.{Counted, kept_yes, kept_no, size_yes, counted_yes, counted_not}

module _ {K : Type 0} (p : Table K → Bool) (ts : List (Table K)) (ids : List ℕ) where
  -- before place i: the numbers of what is named are written over `ids`, which is `now'` by then
  pub record Writing (now' : List ℕ) (n : Named) (i : ℕ) : Type 0 where
    pub front : take n.count now' ++ numbers_of (filter p (drop i ts)) ≡ numbers_of (filter p ts)
    pub rest : drop n.count now' ≡ drop n.count ids
    pub long : length now' ≡ length ids
    pub counted : Counted p ts n i

  module _ (now' : List ℕ) (n : Named) (i : ℕ) (t : Table K) (inside : i < length ts) (read : t ≡ get_or ts i t) (h : Writing now' n i) where
    -- there is a place for one more
    pub write_room : p t ≡ true → n.count < length (numbers_of (filter p ts))
    write_room e = omega (arith, h.counted.counted, ap length (kept_yes p ts n i t inside read e), length-map (filter p ts) (λ u. u.number))

    -- the bytes do not pass those of all tables
    pub write_light : p t ≡ true → n.bytes + t.size ≤ size_of ts
    write_light e = omega (arith, h.counted.summed, size_yes p ts n i t inside read e, sum_by-filter_both p (λ u. not (p u)) (λ u. refl) (λ u. u.size) ts)

    pub write_yes : (after : List ℕ) → after ≡ set now' n.count t.number → (m : Named) → m.count ≡ n.count + 1 → m.bytes ≡ n.bytes + t.size → n.count < length now' → p t ≡ true → Writing after m (i + 1)
    write_yes after w m c b lt e =
        let more : numbers_of (filter p (drop i ts)) ≡ t.number ∷ numbers_of (filter p (drop (i + 1) ts)) = ap numbers_of (kept_yes p ts n i t inside read e) in
        let one : drop (n.count + 1) now' ≡ drop (n.count + 1) ids = sym (drop-drop 1 n.count now') ∙ (ap (drop 1) h.rest ∙ drop-drop 1 n.count ids) in
        let front : take (n.count + 1) (set now' n.count t.number) ++ numbers_of (filter p (drop (i + 1) ts)) ≡ numbers_of (filter p ts) =
        ap (λ l. l ++ numbers_of (filter p (drop (i + 1) ts))) (take_more_set now' n.count t.number lt)
        ∙ (append_assoc (take n.count now') (t.number ∷ []) (numbers_of (filter p (drop (i + 1) ts))) ∙ (ap (λ l. take n.count now' ++ l) (sym more) ∙ h.front)) in
        record {
          front = rw (w, c) front;
          rest = rw (w, c) (drop-set-lt (n.count + 1) now' n.count t.number (omega arith) ∙ one);
          long = ap length w ∙ length-set now' n.count t.number ∙ h.long;
          counted = counted_yes p ts n i t inside read h.counted m c b e;
        }

    pub write_not : (after : List ℕ) → after ≡ now' → (m : Named) → m ≡ n → p t ≡ false → Writing after m (i + 1)
    write_not after w m s e =
        rw (w, s) (record {
          front = ap (λ us. take n.count now' ++ numbers_of us) (sym (kept_no p ts n i t inside read e)) ∙ h.front;
          rest = h.rest;
          long = h.long;
          counted = counted_not p ts n i t inside read h.counted n refl e;
        })
