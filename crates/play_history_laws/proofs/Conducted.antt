-- Steps that are conducted are requested: what needs asking by its reply is then what does by its act.
use Rattle.std.proofs.Common.{◌≡◌, ℕ, zero, suc, Bool, true, false, not, List, [], ◌∷◌, ◌++◌, map, slice_get, Some, refl, sym, ◌∙◌, ap, subst, append-nil, append_assoc}
use Rattle.std.specs.Prelude.{cond, flat_map}
use Rattle.std.proofs.lemmas.List.Elements.{filter-append}
use Rattle.omx_types.specs.declared.handle.Handle.{Handle}
use Rattle.omx_types.specs.declared.state.State.{State}
use Rattle.omx_types.specs.declared.state.State.TheVariants.{Loaded, Idle, Executing}
use Rattle.il_machine.specs.Acts.{Act, Reply}
use Rattle.il_machine.specs.Acts as acts
use Rattle.machine_laws.proofs.Finding.{either}
use Rattle.play_build_laws.specs.Assembly.{Assembly}
use Rattle.play_log.specs.Entries.{is_unprinted}
use Rattle.play_result_laws.specs.Asked.{Asking, BackToIdle, Disabling, Enabling, IsConducted, Retuning, ToExecuting, ToIdle, ToLoaded, acts_of, asked, askings, is_asked, is_unasked, sending}
use Rattle.play_history_laws.specs.Requests.{AreRequested, is_request, is_request_act, requests}

pub unasked_no : (a : Act) (r : Reply) → is_unasked a r ≡ true → is_request_act a ≡ false
unasked_no (acts.RunCommand h) r t = refl
unasked_no (acts.Claim h) r t = refl
unasked_no (acts.Finish done) r t = refl
unasked_no (acts.Supply h port) r t = refl
unasked_no (acts.Release h port) r t = refl
unasked_no (acts.HandOver h port) r t = refl
unasked_no (acts.HandBack h port) r t = refl
unasked_no (acts.TakeNote h) r t = refl
unasked_no (acts.EndNote h progress) r t = refl
unasked_no (acts.Progress h) r t = absurd cc
unasked_no _ r t = absurd cc

pub asked_too : (step : Act × Reply) → is_request step ≡ true → is_asked step ≡ true
asked_too step t = either (is_unasked step.0 step.1)
    (λ u. let z : true ≡ false = sym t ∙ unasked_no step.0 step.1 u in absurd cc)
    (λ f. ap (λ (b : Bool). not b) f)

-- ---- lists of requests alone, each with a reply that a log has

abbrev pub AreAll : List (Act × Reply) → Type 0
AreAll [] = Unit {0}
AreAll (step ∷ steps) = (is_request step ≡ true) × (is_unprinted step.1 ≡ false) × AreAll steps

all_front : (xs ys : List (Act × Reply)) → AreAll (xs ++ ys) → AreAll xs
all_front [] ys A = tt
all_front (x ∷ xs) ys A = (A.0, A.1, all_front xs ys A.2)

all_both : (xs ys : List (Act × Reply)) → AreAll xs → AreAll ys → AreAll (xs ++ ys)
all_both [] ys A B = B
all_both (x ∷ xs) ys A B = (A.0, A.1, all_both xs ys A.2 B)

all_kept : (xs : List (Act × Reply)) → AreAll xs → requests xs ≡ xs
all_kept [] A = refl
all_kept (x ∷ xs) A = ap (λ (b : Bool). cond b (x ∷ requests xs) (requests xs)) A.0 ∙ ap (λ (ys : List (Act × Reply)). x ∷ ys) (all_kept xs A.2)

-- what is no request is left out twice
kept_once : (xs : List (Act × Reply)) → requests xs ≡ requests (asked xs)
kept_once [] = refl
kept_once (x ∷ xs) = either (is_unasked x.0 x.1)
    (λ t.
    let n = unasked_no x.0 x.1 t in
    ap (λ (b : Bool). cond b (x ∷ requests xs) (requests xs)) n ∙ (kept_once xs ∙ ap (λ (b : Bool). requests (cond (not b) (x ∷ asked xs) (asked xs))) (sym t)))
    (λ f.
    ap (λ (ys : List (Act × Reply)). cond (is_request x) (x ∷ ys) ys) (kept_once xs) ∙ ap (λ (b : Bool). requests (cond (not b) (x ∷ asked xs) (asked xs))) (sym f))

module _ (s : Assembly) (handles : List Handle) where
  pub all_sent : (state : State) (hs : List Handle) → AreAll (map (sending state) hs)
  all_sent state [] = tt
  all_sent state (h ∷ hs) = (refl, refl, all_sent state hs)

  pub all_acts : (one : Asking) → AreAll (acts_of s handles one)
  all_acts ToIdle = all_sent Idle handles
  all_acts ToExecuting = all_sent Executing handles
  all_acts BackToIdle = all_sent Idle handles
  all_acts ToLoaded = all_sent Loaded handles
  all_acts (Disabling l) = (refl, refl, (refl, refl, tt))
  all_acts (Retuning l) = (refl, refl, (refl, refl, (refl, refl, (refl, refl, tt))))
  all_acts (Enabling l) = (refl, refl, (refl, refl, tt))

  all_list : (list : List Asking) → AreAll (flat_map (acts_of s handles) list)
  all_list [] = tt
  all_list (one ∷ list) = all_both (acts_of s handles one) (flat_map (acts_of s handles) list) (all_acts one) (all_list list)

  all_at : (xs : List (Act × Reply)) (i : ℕ) (step : Act × Reply) → AreAll xs → slice_get xs i ≡ Some step → is_request step ≡ true
  all_at [] i step A e = absurd cc
  all_at (x ∷ xs) zero step A e = let is : x ≡ step = cc in ap is_request (sym is) ∙ A.0
  all_at (x ∷ xs) (suc i) step A e = all_at xs i step A.2 e

  -- what is asked is a request
  pub is_request_of : (one : Asking) (i : ℕ) (step : Act × Reply) → slice_get (acts_of s handles one) i ≡ Some step → is_request step ≡ true
  is_request_of one i step e = all_at (acts_of s handles one) i step (all_acts one) e

  pub is_request_in : (list : List Asking) (i : ℕ) (step : Act × Reply) → slice_get (flat_map (acts_of s handles) list) i ≡ Some step → is_request step ≡ true
  is_request_in list i step e = all_at (flat_map (acts_of s handles) list) i step (all_list list) e

  module _ (steps : List (Act × Reply)) (C : IsConducted s handles steps) where
    all_asked : AreAll (asked steps)
    all_asked = subst (λ (ys : List (Act × Reply)). AreAll ys) (sym C.whole) (all_list (askings C.links))

    same_front : (before after : List (Act × Reply)) → steps ≡ before ++ after → requests before ≡ asked before
    same_front before after e =
        let A : AreAll (asked before ++ asked after) = subst (λ (ys : List (Act × Reply)). AreAll ys) (ap asked e ∙ filter-append is_asked before after) all_asked in
        kept_once before ∙ all_kept (asked before) (all_front (asked before) (asked after) A)

    pub conducted_requested : AreRequested s handles C.links [] steps
    conducted_requested = record {
      late = C.late;
      made = append-nil (requests steps) ∙ (same_front steps [] (sym (append-nil steps)) ∙ C.whole);
      timely = λ number one next before after step a b e t m.
          C.timely number one next before after step a b e (asked_too step t) (sym (same_front before (step ∷ after) e) ∙ m);
    }

  -- what was requested so is all of it
  pub requested_all : (links : List ℕ) (left steps : List (Act × Reply)) → AreRequested s handles links left steps → AreAll (requests steps)
  requested_all links left steps R = all_front (requests steps) left (subst (λ (ys : List (Act × Reply)). AreAll ys) (sym R.made) (all_list (askings links)))

  -- a front of requested steps is requested
  pub front_requested : (links : List ℕ) (left front behind : List (Act × Reply)) → AreRequested s handles links left (front ++ behind) → AreRequested s handles links (requests behind ++ left) front
  front_requested links left front behind R = record {
    late = R.late;
    made = sym (append_assoc (requests front) (requests behind) left) ∙ (ap (λ (ys : List (Act × Reply)). ys ++ left) (sym (filter-append is_request front behind)) ∙ R.made);
    timely = λ number one next before after step a b e t m.
        R.timely number one next before (after ++ behind) step a b (ap (λ (ys : List (Act × Reply)). ys ++ behind) e ∙ append_assoc before (step ∷ after) behind) t m;
  }
