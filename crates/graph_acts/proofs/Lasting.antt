-- Works that are out stay so in each act that isn't their finish.
use Rattle.std.proofs.Common.{◌≡◌, inl, ℕ, true, false, Option, Some, None, IsSomeAnd, is_some, refl, sym, ◌∙◌, ap, ne_eqb}
use Rattle.std.specs.Prelude.{option_and_then}
use Rattle.il_machine.specs.Acts.{Act, Reply}
use Rattle.il_machine.specs.Acts as acts
use Rattle.il_machine.specs.Answers.{component_named}
use Rattle.il_machine.specs.Run.{Meets, Step}
use Rattle.il_machine.specs.Sound.{Sound}
use Rattle.il_machine.specs.Stepping.{WorkDone}
use Rattle.il_machine.specs.World.{Component, World, number_of}
use Rattle.machine_laws.proofs.Finding.{either}
use Rattle.history_laws.specs.Works.{has_work_out, returns_work, takes_work}
use Rattle.history_laws.proofs.Freed.{none_comes, none_left}
use Rattle.history_laws.proofs.HeldOut.{steps_held, steps_unchanged}
use Rattle.history_laws.proofs.KeyLaw.{steps_key}
use Rattle.history_laws.proofs.Named.{is_named, named_number}
use Rattle.history_laws.proofs.Seats.{handle_stays}
use Rattle.il_graph.proofs.Calling.{and_some}
use Rattle.il_graph.proofs.Returning.{still_known}
use Rattle.graph_acts.specs.Working.{IsWorkIn, MovesWorks, OutWork, work_by, work_number}

pub some_there : {A : Type 0} (o : Option A) (P : A → Type 0) → IsSomeAnd o P → (x : A) × (o ≡ Some x) × P x
some_there None P h = absurd h
some_there (Some x) P h = (x, refl, h)

pub was_out : (w : World) (a : Act) (r : Reply) (v : World) (n : ℕ) → Sound w → Meets w a → Step w a r v → takes_work n a r ≡ false → has_work_out n v ≡ true → has_work_out n w ≡ true
was_out w a r v n S M h t e = either (has_work_out n w) (λ o. o) (λ f. let x : true ≡ false = sym e ∙ none_comes w a r v n S M h t f in absurd cc)

module _ {S K : Type 0} where
  pub still_in : (w : World) (a : Act) (r : Reply) (v : World) (x : OutWork S K) → Sound w → Meets w a → Step w a r v → returns_work (work_number x) a r ≡ false → IsWorkIn w x → IsWorkIn v x
  still_in w a r v x S M s n H =
      let out = steps_held w a r v (work_by H.terms x) H.stream S M s n H.out in
      let c = some_there (component_named x.handle w.components) (λ (c : Component). number_of c ≡ x.handle.generation) H.named in
      let d = handle_stays w a r v x.handle c.0 out.component S M s c.1 out.there in
      record {
        terms = H.terms;
        stream = H.stream;
        out = out;
        gone = H.gone;
        set_so = H.set_so;
        kind = H.kind;
        its_file = H.its_file;
        whole = H.whole;
        named = and_some (λ (y : Component). number_of y ≡ x.handle.generation) (component_named x.handle v.components) out.component d
            (named_number x.handle.generation v.components out.component (sym (is_named x.handle.generation v) ∙ out.there));
        headers = still_known w v 0 x.headers (steps_key w a r v S M s) (steps_unchanged w a r v (work_by H.terms x) H.stream S M s n H.out) H.headers;
      }

  pub out_in : (w : World) (x : OutWork S K) → IsWorkIn w x → has_work_out (work_number x) w ≡ true
  out_in w x H =
      let O = H.out in
      ap (λ (o : Option Component). is_some (option_and_then (λ (c : Component). c.work) o)) O.there ∙ ap is_some O.out

  -- none goes out and none comes back
  pub works_stay : (w v : World) (a : Act) (r : Reply) → Sound w → Meets w a → Step w a r v → ((n : ℕ) → (returns_work n a r ≡ false) × (takes_work n a r ≡ false)) → MovesWorks {S = S} {K = K} None None w v
  works_stay w v a r S M s q = record {
    stay = λ x o H. still_in w a r v x S M s (q (work_number x)).0 H;
    back = λ n o. inl (was_out w a r v n S M s (q n).1 o, tt);
    given = tt;
  }

  pub works_back : (w v : World) (done : WorkDone) → Sound w → Meets w (acts.Finish done) → Step w (acts.Finish done) acts.Finished v → MovesWorks {S = S} {K = K} (Some done.component) None w v
  works_back w v done S M s = record {
    stay = λ x o H. still_in w (acts.Finish done) acts.Finished v x S M s (ne_eqb done.component (work_number x) (λ e. o (sym e))) H;
    back = λ n o. inl (
      was_out w (acts.Finish done) acts.Finished v n S M s refl o,
      λ e. let z : true ≡ false = sym o ∙ (ap (λ (m : ℕ). has_work_out m v) e ∙ none_left w done v S M s) in cc,
    );
    given = tt;
  }
