-- The entries of a board's history, by their places and passes.
use Rattle.std.proofs.Common.{◌≡◌, ℕ, zero, suc, ◌==◌, Bool, true, All, List, [], ◌∷◌, slice_get, Some, refl, sym, ◌∙◌, ap, subst, eq-eqb, ne_eqb, arith}
use Rattle.std.proofs.lemmas.List.Elements.{All-head, All-tail, filter_agree}
use Rattle.std.proofs.lemmas.Option.{slice_get-map}
use Rattle.il_machine.specs.Acts as acts
use Rattle.machine_laws.proofs.Finding.{either}
use Rattle.turnstile.specs.declared.entry.Entry.{Entry}
use Rattle.turnstile.specs.Entries.{kept, own}
use Rattle.graph_acts.specs.declared.act.Act.{Act}
use Rattle.graph_acts.specs.declared.act.Reply.{Reply}
use Rattle.graph_acts.specs.Plain.{Sight}
use Rattle.board.specs.declared.asked.Asked.{Asked}
use Rattle.board.specs.declared.asked.Told.{Told}
use Rattle.board.specs.Asking.{ArePlain, IsPlain, bare, bare_log}
use Rattle.worker_play_laws.proofs.Zipped.{each_at}
use Rattle.worker_play_laws.specs.Entries.{entries_of, log_entry}
use Rattle.play_log.specs.Entries.{Entry as LogEntry, steps_of}
use Rattle.play_result_laws.specs.Passes.{own_steps}
use Rattle.play_history_laws.specs.Worked.{conducts}
use Rattle.worker_play_laws.proofs.PlanSeats.{there_in}

-- what holds of each entry of its pass holds of an entry
pub own_at : {A R : Type 0} (P : Entry A R → Type 0) (log : List (Entry A R)) (i : ℕ) (e : Entry A R) → All P (own e.pass log) → slice_get log i ≡ Some e → P e
own_at {A} {R} P [] i e h at = absurd cc
own_at {A} {R} P (x ∷ log) zero e h at =
    let is : x ≡ e = cc in
    let b : (x.pass == e.pass) ≡ true = eq-eqb x.pass e.pass (ap (λ (y : Entry A R). y.pass) is) in
    subst P is (All-head P x (own e.pass log) (subst (λ (c : Bool). All P (kept c x (own e.pass log))) b h))
own_at {A} {R} P (x ∷ log) (suc i) e h at = either (x.pass == e.pass)
    (λ b. own_at P log i e (All-tail P x (own e.pass log) (subst (λ (c : Bool). All P (kept c x (own e.pass log))) b h)) at)
    (λ b. own_at P log i e (subst (λ (c : Bool). All P (kept c x (own e.pass log))) b h) at)

module _ {S K C : Type 0} (see : Sight S K C) (log : List (Entry (Asked S K C) (Told S K C))) (steps : List (acts.Act × acts.Reply)) (plain : ArePlain see (bare_log log) steps) where
  -- the history's entry of which an entry of a log is
  pub record IsEntryAt (place : ℕ) (entry : LogEntry) : Type 0 where
    pub e : Entry (Asked S K C) (Told S K C)
    pub step : acts.Act × acts.Reply
    pub there : slice_get log place ≡ Some e
    pub plain_step : IsPlain see (bare e) step
    pub is : entry ≡ log_entry (bare e) step

  pub entry_at : (place : ℕ) (entry : LogEntry) → slice_get (entries_of (bare_log log) steps) place ≡ Some entry → IsEntryAt place entry
  entry_at place entry at =
      let x = each_at see (bare_log log) steps plain place entry at in
      let f = there_in bare (slice_get log place) x.0 (sym (slice_get-map bare log place) ∙ x.2) in
      record {
        e = f.0;
        step = x.1;
        there = f.1;
        plain_step = subst (λ (y : Entry (Act S K C) (Reply S K C)). IsPlain see y x.1) (sym f.2) x.3;
        is = x.4 ∙ ap (λ (y : Entry (Act S K C) (Reply S K C)). log_entry y x.1) (sym f.2);
      }

-- pass 0 is the one that conducts
conducts_is : (entry : LogEntry) → (entry.pass == 0) ≡ conducts entry.pass
conducts_is entry = by entry.pass
  where
    by : (pass : ℕ) → (pass == 0) ≡ conducts pass
    by zero = refl
    by (suc pass) = ne_eqb (suc pass) 0 (λ e. omega arith)

pub conducting_steps : (entries : List LogEntry) → own_steps (λ pass. pass == 0) entries ≡ own_steps conducts entries
conducting_steps entries = ap steps_of (filter_agree (λ (entry : LogEntry). entry.pass == 0) (λ (entry : LogEntry). conducts entry.pass) conducts_is entries)
