-- The entries of a history and its steps, one by one.
use Rattle.std.proofs.Common.{◌≡◌, inl, inr, ℕ, zero, suc, ◌<◌, ◌≤◌, Bool, true, false, List, [], ◌∷◌, slice_get, Some, map, refl, sym, ◌∙◌, ap, subst, eq-eqb, arith}
use Rattle.std.specs.Prelude.{All, ◌==◌, cond, filter}
use Rattle.std.proofs.lemmas.Bool.{cases_lt}
use Rattle.std.proofs.lemmas.Option.{slice_get_within}
use Rattle.turnstile.proofs.Basics.{some_is}
use Rattle.std.proofs.lemmas.List.Elements.{All-cons, All-nil}
use Rattle.il_machine.specs.Acts as acts
use Rattle.machine_laws.proofs.Finding.{either}
use Rattle.turnstile.specs.declared.entry.Entry.{Entry}
use Rattle.turnstile.specs.Entries.{kept, own}
use Rattle.graph_acts.specs.declared.act.Act.{Act}
use Rattle.graph_acts.specs.declared.act.Reply.{Reply}
use Rattle.graph_acts.specs.Plain.{Sight}
use Rattle.board.specs.Asking.{ArePlain, IsPlain}
use Rattle.play_log.specs.Entries.{Entry as LogEntry, step_of, steps_of}
use Rattle.play_result_laws.specs.Passes.{own_steps}
use Rattle.worker_play_laws.specs.Entries.{entries_of, log_entry}

module _ {S K C : Type 0} (see : Sight S K C) where
  abbrev E : Type 0
  E = Entry (Act S K C) (Reply S K C)

  abbrev Steps : Type 0
  Steps = List (acts.Act × acts.Reply)

  pub same_steps : (log : List E) (steps : Steps) → ArePlain see log steps → steps_of (entries_of log steps) ≡ steps
  same_steps [] [] P = refl
  same_steps [] (x ∷ xs) P = absurd P
  same_steps (e ∷ log) [] P = absurd P
  same_steps (e ∷ log) (x ∷ xs) P = ap (λ (ys : Steps). x ∷ ys) (same_steps log xs P.1)

  -- ---- of one pass

  abbrev is_its : ℕ → LogEntry → Bool
  is_its number entry = entry.pass == number

  pub same_own : (log : List E) (steps : Steps) → ArePlain see log steps → (number : ℕ) → ArePlain see (own number log) (own_steps (λ pass. pass == number) (entries_of log steps))
  same_own [] [] P number = tt
  same_own [] (x ∷ xs) P number = absurd P
  same_own (e ∷ log) [] P number = absurd P
  same_own (e ∷ log) (x ∷ xs) P number =
      let rest = same_own log xs P.1 number in
      let others : List LogEntry = filter (is_its number) (entries_of log xs) in
      let front : LogEntry = log_entry e x in
      either (e.pass == number)
      (λ t.
      subst (λ (b : Bool). ArePlain see (kept b e (own number log)) (map step_of (cond b (front ∷ others) others))) (sym t) (P.0, rest))
      (λ f. subst (λ (b : Bool). ArePlain see (kept b e (own number log)) (map step_of (cond b (front ∷ others) others))) (sym f) rest)

  -- ---- each of them

  pub each_at : (log : List E) (steps : Steps) → ArePlain see log steps → (place : ℕ) (entry : LogEntry) → slice_get (entries_of log steps) place ≡ Some entry
      → (e : E) × (step : acts.Act × acts.Reply) × (slice_get log place ≡ Some e) × IsPlain see e step × (entry ≡ log_entry e step)
  each_at [] [] P place entry z = let none : List LogEntry = [] in absurd (omega (arith, slice_get_within none place entry z))
  each_at [] (x ∷ xs) P place entry z = absurd P
  each_at (e ∷ log) [] P place entry z = absurd P
  each_at (e ∷ log) (x ∷ xs) P zero entry z = (e, x, refl, P.0, sym (some_is (log_entry e x) entry z))
  each_at (e ∷ log) (x ∷ xs) P (suc place) entry z = each_at log xs P.1 place entry z

  -- ---- how many passes

  none_kept : (b : Bool) (e : E) (es : List E) → kept b e es ≡ [] → (b ≡ false) × (es ≡ [])
  none_kept true e es z = absurd cc
  none_kept false e es z = (refl, z)

  AtMost : ℕ → LogEntry → Type 0
  AtMost most entry = entry.pass ≤ most

  pub all_few : (log : List E) (steps : Steps) → ArePlain see log steps → (most : ℕ) → ((pass : ℕ) → most < pass → own pass log ≡ []) → All (λ entry. entry.pass ≤ most) (entries_of log steps)
  all_few [] [] P most N = All-nil (λ (entry : LogEntry). entry.pass ≤ most)
  all_few [] (x ∷ xs) P most N = absurd P
  all_few (e ∷ log) [] P most N = absurd P
  all_few (e ∷ log) (x ∷ xs) P most N =
      All-cons (λ (entry : LogEntry). entry.pass ≤ most) (log_entry e x) (entries_of log xs)
      (elim (cases_lt most e.pass) [
        | inl b ↦ let z : true ≡ false = sym (eq-eqb e.pass e.pass refl) ∙ (none_kept (e.pass == e.pass) e (own e.pass log) (N e.pass b)).0 in absurd cc
        | inr b ↦ b
      ])
      (all_few log xs P.1 most (λ pass b. (none_kept (e.pass == pass) e (own pass log) (N pass b)).1))
