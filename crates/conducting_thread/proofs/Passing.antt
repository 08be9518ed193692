-- The pass that conducts, at first and behind a round.
use Rattle.std.proofs.Common.{◌≡◌, Bool, true, false, List, [], ◌∷◌, length, Option, inl, inr, refl, sym, ◌∙◌, ap, subst}
use Rattle.std.proofs.lemmas.List.Elements.{All-nil}
use Rattle.il_machine.specs.declared.answer.Progress.{Progress}
use Rattle.il_machine.specs.Acts as acts
use Rattle.turnstile.specs.Entries.{own}
use Rattle.conductor.specs.declared.phase.Phase.{Phase}
use Rattle.conductor.specs.declared.phase.Phase.TheVariants as phases
use Rattle.conductor.specs.Casting.{cast_of}
use Rattle.conductor.specs.Hearing.{ConductorValue, heard}
use Rattle.conductor.specs.Phases.{Conducts, has_failed, is_over}
use Rattle.play_forms.specs.Plans.{PlanValue}
use Rattle.play_plan_laws.specs.Assemblies.{PlayFiles}
use Rattle.play_result_laws.specs.Rounds.{AreMade, IsConducting, begins, looks}
use Rattle.graph_acts.specs.Holding.{Clear}
use Rattle.graph_acts.specs.Plain.{Sight}
use Rattle.board.specs.declared.boards.Board.{Board}
use Rattle.board.specs.Asking.{ArePlain, bare_log}
use Rattle.board.specs.Boards.{own_calls, pass_view}
use Rattle.pass_book.specs.declared.book.Book.{Book}
use Rattle.work_signs.specs.declared.seat.Seat.{Seat}
use Rattle.pass_book.specs.Books.{IsBook}
use Rattle.conducting_thread.specs.declared.conducting.ConductingPass.{ConductingPass}
use Rattle.conducting_thread.specs.declared.conducting.Round.{Round}
use Rattle.conducting_thread.specs.Asking.{AreAnswered, AreStepless, HasAsked, IsStepless, Keeps}
use Rattle.conducting_thread.specs.Knowing.{KnowsPlan}
use Rattle.conducting_thread.specs.Looking.{HasLost}
use Rattle.conducting_thread.specs.Passes.{GoesOnAfter, IsConductingPass, is_end, round_of}
use Rattle.work_signs.specs.Seats.{handles_of}
use Rattle.conducting_thread.proofs.Knowing.{knows_first}
use Rattle.conducting_thread.proofs.Requests.{keeps_on}
use Rattle.conducting_thread.proofs.Rounds.{goes_on, is_lost, is_refused}

-- the answer that the play is over stays so
stays_over : (value next : ConductorValue) (phase : Phase) → is_end phase ≡ true → Conducts value phase next → Conducts next phases.Over next
stays_over value next phases.Over e C = (subst (λ (v : ConductorValue). has_failed v.told ≡ false) (sym C.2) C.0, subst (λ (v : ConductorValue). is_over v ≡ true) (sym C.2) C.1, refl)
stays_over value next (phases.Send state) e C = absurd cc
stays_over value next (phases.Change component step) e C = absurd cc
stays_over value next phases.Wait e C = absurd cc
stays_over value next phases.Failed e C = absurd cc

-- ---- what can follow a round

module _ {S K C : Type 0} where
  round_after : (value : ConductorValue) (phase : Phase) (p : ConductingPass S K C) → Conducts value phase p.conductor → p.ended ≡ is_end phase → p.refused ≡ false → GoesOnAfter (round_of phase) p
  round_after value (phases.Send state) p C e r = (r, e)
  round_after value (phases.Change component step) p C e r = (r, e)
  round_after value phases.Wait p C e r = (r, e)
  round_after value phases.Over p C e r = inl e
  round_after value phases.Failed p C e r = inr (inr (subst (λ (v : ConductorValue). has_failed v.told ≡ true) (sym C.1) C.0, refl))

  pub goes_after : (value : ConductorValue) (phase : Phase) (round : Round) (p : ConductingPass S K C) → Conducts value phase p.conductor → round ≡ round_of phase → p.ended ≡ is_end phase → p.refused ≡ false → GoesOnAfter round p
  goes_after value phase round p C is e r = subst (λ (x : Round). GoesOnAfter x p) (sym is) (round_after value phase p C e r)

module _ {S K C : Type 0} (see : Sight S K C) (b : Board S K C) (plan : PlanValue) (seats : List Seat) where
  still_clear : (k l : Book S K C) → Keeps see.progress b seats k l → Clear see (own_calls k.pass) → Clear see (own_calls l.pass)
  still_clear k l A c = ((A.holds).0 ∙ c.0, (A.holds).1 ∙ c.1, (A.holds).2 ∙ c.2)

  -- ---- at first

  no_plain : (xs : List (acts.Act × acts.Reply)) → ArePlain see [] xs → xs ≡ []
  no_plain [] p = refl
  no_plain (x ∷ xs) p = absurd p

  pub first_pass : (p : ConductingPass S K C) → IsBook b seats p.book → p.book.number ≡ 0 → (pass_view p.book.pass).mine ≡ [] → p.conductor ≡ cast_of plan → p.ended ≡ false → p.refused ≡ false → IsConductingPass see b plan seats p
  first_pass p is number none at going fine =
      let own : own_calls p.book.pass ≡ [] = ap bare_log none in
      record {
        book = is;
        number = number;
        holds = subst (Clear see) (sym own) (refl, refl, refl);
        stepless = subst AreStepless (sym own) (All-nil (λ e. IsStepless e.act));
        knows = subst (KnowsPlan plan) (sym at) (knows_first plan);
        conducting = λ r files xs plain.
            let e : xs ≡ [] = no_plain xs (subst (λ l. ArePlain see l xs) own plain) in
            subst (λ (z : List (acts.Act × acts.Reply) × ConductorValue). IsConducting plan files (handles_of seats) z.0 z.1) (λ i. (sym e i, sym at i)) begins;
        refused = λ r. absurd (let z : true ≡ false = sym r ∙ fine in cc);
        ended = λ r. absurd (let z : true ≡ false = sym r ∙ going in cc);
      }

  -- ---- behind a round

  module _ (p q : ConductingPass S K C) (old : IsConductingPass see b plan seats p) (fine : p.refused ≡ false) where
    pub after_loss : Keeps see.progress b seats p.book q.book → HasLost see (handles_of seats) (own_calls p.book.pass) (own_calls q.book.pass) → q.conductor ≡ p.conductor → q.refused ≡ true → q.ended ≡ false → IsConductingPass see b plan seats q
    after_loss A L same r e = record {
      book = (A.goes_on).book;
      number = (A.goes_on).number ∙ old.number;
      holds = still_clear p.book q.book A old.holds;
      stepless = A.stepless old.stepless;
      knows = subst (KnowsPlan plan) (sym same) old.knows;
      conducting = λ z. absurd (let y : true ≡ false = sym r ∙ z in cc);
      refused = λ z files. is_lost see plan files (handles_of seats) (own_calls p.book.pass) (own_calls q.book.pass) p.conductor (old.conducting fine files) L;
      ended = λ z. absurd (let y : true ≡ false = sym z ∙ e in cc);
    }

    module _ (mid : Book S K C) (views : List (Option Progress)) (phase : Phase) (one : Keeps see.progress b seats p.book mid) (two : Keeps see.progress b seats mid q.book) (many : length views ≡ length (handles_of seats))
        (seen : HasAsked see (own_calls p.book.pass) (looks (handles_of seats) views) (own_calls mid.pass)) (conducts : Conducts (heard p.conductor views) phase q.conductor) (knows : KnowsPlan plan q.conductor) where
      abbrev Answered : Bool → Type 0
      Answered ok = (files : PlayFiles) → (due : List (acts.Act × acts.Reply)) × AreMade plan files (handles_of seats) phase due × AreAnswered see (own_calls mid.pass) due ok (own_calls q.book.pass)

      both : Keeps see.progress b seats p.book q.book
      both = keeps_on see.progress b seats p.book mid q.book one two

      pub after_round : Answered true → q.refused ≡ false → (q.ended ≡ true → is_end phase ≡ true) → IsConductingPass see b plan seats q
      after_round A r e = record {
        book = (both.goes_on).book;
        number = (both.goes_on).number ∙ old.number;
        holds = still_clear p.book q.book both old.holds;
        stepless = both.stepless old.stepless;
        knows = knows;
        conducting = λ z files.
            let M = A files in
            goes_on see plan files (handles_of seats) (own_calls p.book.pass) (own_calls mid.pass) (own_calls q.book.pass) p.conductor views (old.conducting fine files) phase q.conductor M.0 seen many conducts M.1 M.2;
        refused = λ z. absurd (let y : true ≡ false = sym z ∙ r in cc);
        ended = λ z. (r, stays_over (heard p.conductor views) q.conductor phase (e z) conducts);
      }

      pub after_refusal : Answered false → q.refused ≡ true → q.ended ≡ false → IsConductingPass see b plan seats q
      after_refusal A r e = record {
        book = (both.goes_on).book;
        number = (both.goes_on).number ∙ old.number;
        holds = still_clear p.book q.book both old.holds;
        stepless = both.stepless old.stepless;
        knows = knows;
        conducting = λ z. absurd (let y : true ≡ false = sym r ∙ z in cc);
        refused = λ z files.
            let M = A files in
            is_refused see plan files (handles_of seats) (own_calls p.book.pass) (own_calls mid.pass) (own_calls q.book.pass) p.conductor views (old.conducting fine files) phase q.conductor M.0 seen many conducts M.1 M.2;
        ended = λ z. absurd (let y : true ≡ false = sym z ∙ e in cc);
      }
