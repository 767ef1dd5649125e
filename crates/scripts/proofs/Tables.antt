-- The numbers of a table, read one by one, and what stands behind them.
use Rattle.std.proofs.Common.{◌≡◌, ℕ, List, Err, Result, refl, sym, subst}
use Rattle.refusals.specs.declared.refusal.Refusal.{Refusal}
use Rattle.runs.specs.declared.fresh.Fresh.{Fresh}
use Rattle.runs.specs.declared.table.Table.{Table}
use Rattle.texts.specs.declared.field.Field.TheVariants as F
use Rattle.texts.specs.Field.{most_of}
use Rattle.texts.specs.Words.{NextNumber}
use Rattle.scripts.specs.Command.{SaysBody, SaysFresh, SaysTable}
use Rattle.scripts.proofs.Readers.{HasNumber, number_at, same_number, behind}

module _ {K : Type 0} (says : List ℕ → Result K Refusal → Type 0) (ws : List (List ℕ)) {n : ℕ} {a : List (List ℕ)} (first : NextNumber (most_of F.Number) ws n a) where
  moved : {number : ℕ} {after : List (List ℕ)} (r : Result (Fresh K) Refusal) {read : List (List ℕ)} → n ≡ number → read ≡ after → SaysBody says number after r → SaysBody says n read r
  moved {number} {after} r {read} e f body = subst (λ m. SaysBody says m read r) (sym e) (subst (λ ws. SaysBody says number ws r) (sym f) body)

  pub fresh : (r : Result (Fresh K) Refusal) → SaysBody says n a r → SaysFresh says ws r
  fresh r body = record { number = n; after = a; next_number = first; body = body }

  pub fresh_body : (r : Result (Fresh K) Refusal) → SaysFresh says ws r → SaysBody says n a r
  fresh_body r said = moved r (same_number (most_of F.Number) refl first said.next_number) (behind refl first.next said.next_number) said.body

  module _ (r : Result (Table K) Refusal) (said : SaysTable says ws r) where
    pub level_there : HasNumber (most_of F.Level) a
    level_there = number_at _ (behind refl first.next said.next_number) said.next_level

    module _ {l : ℕ} {b : List (List ℕ)} (second : NextNumber (most_of F.Level) a l b) where
      behind_level : b ≡ said.b
      behind_level = behind (behind refl first.next said.next_number) second.next said.next_level

      pub run_there : HasNumber (most_of F.Run) b
      run_there = number_at _ behind_level said.next_run

      pub table_body : {m : ℕ} {c : List (List ℕ)} → NextNumber (most_of F.Run) b m c → (s : Result (Fresh K) Refusal) × SaysBody says n c s
      table_body third = (said.body.0, moved said.body.0 (same_number (most_of F.Number) refl first said.next_number) (behind behind_level third.next said.next_run) said.body.1)

  -- a table whose key is refused
  pub refused_table : {l m : ℕ} {b c : List (List ℕ)} → NextNumber (most_of F.Level) a l b → NextNumber (most_of F.Run) b m c → (refusal : Refusal) → SaysBody says n c (Err refusal) → SaysTable says ws (Err refusal)
  refused_table {l} {m} {b} {c} second third refusal body = record { number = n; level = l; run = m; a = a; b = b; after = c; next_number = first; next_level = second; next_run = third; body = (Err refusal, body, refl) }
