-- The works that a pass was given, by its own calls and by the entries of the whole history.
use Rattle.std.proofs.Common.{◌≡◌, inl, inr, ℕ, ◌+◌, ◌==◌, nat_eq, ◌&&◌, Bool, cond, List, [], ◌∷◌, count_by, Option, Some, None, Ok, Err, refl, sym, ◌∙◌, ap, eq-eqb, ne_eqb, arith}
use Rattle.std.proofs.lemmas.Bool.{cases_eq}
use Rattle.std.proofs.lemmas.List.Sums.{sum_by-cons}
use Rattle.omx_types.specs.declared.handle.Handle.{Handle}
use Rattle.il_machine.specs.Acts as acts
use Rattle.machine_laws.proofs.Finding.{either}
use Rattle.turnstile.specs.declared.entry.Entry.{Entry}
use Rattle.turnstile.specs.Entries.{kept, own}
use Rattle.graph_acts.specs.declared.act.Act.{Act}
use Rattle.graph_acts.specs.declared.act.Act.TheVariants as asks
use Rattle.graph_acts.specs.declared.claimed.LentClaim.TheVariants as claimed
use Rattle.graph_acts.specs.declared.act.Reply.{Reply}
use Rattle.graph_acts.specs.declared.act.Reply.TheVariants as replies
use Rattle.graph_acts.specs.Plain.{Sight, Unsaid, plain_act, plain_reply}
use Rattle.board.specs.declared.asked.Asked.{Asked}
use Rattle.board.specs.declared.asked.Told.{Told}
use Rattle.board.specs.Asking.{ArePlain, bare, bare_log}
use Rattle.worker_play_laws.specs.Entries.{entries_of, log_entry}
use Rattle.play_log.specs.Entries.{Entry as LogEntry}
use Rattle.play_result_laws.specs.Gates.{CountsMeet, GatesMeet, is_work_by, is_work_of, works_by}
use Rattle.play_worker.specs.Counts.{Counts, claims, is_claim}
use Rattle.worker_play_laws.specs.Lines.{GatesCount}

eq_swap : (a b : ℕ) → nat_eq a b ≡ (b == a)
eq_swap a b = elim (cases_eq a b) [
  | inl e ↦ eq-eqb a b e ∙ sym (eq-eqb b a (sym e))
  | inr n ↦ ne_eqb a b n ∙ sym (ne_eqb b a (λ e. n (sym e)))
]

count_more : {X : Type 0} (p : X → Bool) (x : X) (xs : List X) → count_by p (x ∷ xs) ≡ cond (p x) 1 0 + count_by p xs
count_more p x xs = sum_by-cons (λ y. cond (p y) 1 0) x xs

nothing_more : (n : ℕ) → 0 + n ≡ n
nothing_more n = omega arith

module _ {S K C : Type 0} (see : Sight S K C) where
  same_claim : (u : Unsaid) (number : ℕ) (h : Handle) (reply : Reply S K C) → is_work_of number (acts.Claim h) (plain_reply u reply) ≡ is_claim number (asks.Claim h) reply
  same_claim u number h (replies.Claim (Ok (claimed.Work work))) = sym (eq_swap number h.generation)
  same_claim u number h (replies.Claim (Ok claimed.Busy)) = refl
  same_claim u number h (replies.Claim (Ok claimed.NotRunning)) = refl
  same_claim u number h (replies.Claim (Ok claimed.Ended)) = refl
  same_claim u number h (replies.Claim (Ok (claimed.Held port))) = refl
  same_claim u number h (replies.Claim (Ok (claimed.NoData port))) = refl
  same_claim u number h (replies.Claim (Ok (claimed.NoRoom port))) = refl
  same_claim u number h (replies.Claim (Ok (claimed.Events room need))) = refl
  same_claim u number h (replies.Claim (Err e)) = refl
  same_claim u number h _ = refl

  same_work : (u : Unsaid) (number : ℕ) (act : Act S K C) (reply : Reply S K C) → is_work_of number (plain_act see u act) (plain_reply u reply) ≡ is_claim number act reply
  same_work u number (asks.Claim h) reply = same_claim u number h reply
  same_work u number _ reply = refl

  works_are : (number pass : ℕ) (log : List (Entry (Asked S K C) (Told S K C))) (steps : List (acts.Act × acts.Reply)) → ArePlain see (bare_log log) steps
      → claims number (bare_log (own pass log)) ≡ works_by pass number (entries_of (bare_log log) steps)
  works_are number pass [] [] plain = refl
  works_are number pass [] (x ∷ xs) plain = absurd plain
  works_are number pass (e ∷ log) [] plain = absurd plain
  works_are number pass (e ∷ log) (x ∷ xs) plain =
      let rest = works_are number pass log xs plain.1 in
      let entry : LogEntry = log_entry (bare e) x in
      let others : List LogEntry = entries_of (bare_log log) xs in
      let same : is_work_of number x.0 x.1 ≡ is_claim number e.act.act e.reply.reply =
      ap (λ (y : acts.Act × acts.Reply). is_work_of number y.0 y.1) (plain.0).1 ∙ same_work (plain.0).0 number e.act.act e.reply.reply in
      let more = count_more (is_work_by pass number) entry others in
      either (e.pass == pass)
      (λ t.
      ap (λ (b : Bool). claims number (bare_log (kept b e (own pass log)))) t
      ∙ (ap (λ (n : ℕ). cond (is_claim number e.act.act e.reply.reply) 1 0 + n) rest
      ∙ (ap (λ (b : Bool). cond b 1 0 + works_by pass number others) (sym same)
      ∙ (ap (λ (b : Bool). cond (b && is_work_of number x.0 x.1) 1 0 + works_by pass number others) (sym t) ∙ sym more))))
      (λ f.
      ap (λ (b : Bool). claims number (bare_log (kept b e (own pass log)))) f
      ∙ (rest
      ∙ (sym (nothing_more (works_by pass number others))
      ∙ (ap (λ (b : Bool). cond (b && is_work_of number x.0 x.1) 1 0 + works_by pass number others) (sym f) ∙ sym more))))

  module _ (log : List (Entry (Asked S K C) (Told S K C))) (steps : List (acts.Act × acts.Reply)) (plain : ArePlain see (bare_log log) steps) (components : ℕ) where
    counts_meet : (counts : Option (ℕ → ℕ)) (pass : ℕ) → Counts counts (bare_log (own pass log)) → CountsMeet counts pass components (entries_of (bare_log log) steps)
    counts_meet None pass A = tt
    counts_meet (Some count) pass A = λ number b. A number ∙ works_are number pass log steps plain

    pub gates_meet : {G : Type 0} (counts : G → Option (ℕ → ℕ)) (pass : ℕ) (gates : List G) → GatesCount counts pass gates log → GatesMeet counts pass gates components (entries_of (bare_log log) steps)
    gates_meet counts pass [] A = tt
    gates_meet counts pass (gate ∷ gates) A = (counts_meet (counts gate) pass A.0, gates_meet counts (pass + 1) gates A.1)
