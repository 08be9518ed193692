-- What a cursor asks next is the next of the list, in time.
use Rattle.std.proofs.Common.{◌≡◌, ◌≢◌, inl, inr, ℕ, zero, suc, ◌+◌, ◌<◌, ◌≤◌, true, false, List, [], ◌∷◌, ◌++◌, drop, length, slice_get, Option, Some, None, refl, sym, ◌∙◌, ap, subst, append_assoc, arith}
use Rattle.std.specs.Prelude.{flat_map}
use Rattle.std.proofs.lemmas.Bool.{cases_lt}
use Rattle.std.proofs.lemmas.List.{length-map}
use Rattle.std.proofs.lemmas.List.Concat.{flat_map-append}
use Rattle.std.proofs.lemmas.Option.{slice_get_within}
use Rattle.omx_types.specs.declared.command.Command.TheVariants.{PortDisable, PortEnable}
use Rattle.omx_types.specs.declared.command.Completion.TheVariants as completions
use Rattle.omx_types.specs.declared.handle.Handle.{Handle}
use Rattle.omx_types.specs.declared.state.State.TheVariants.{Loaded, Idle, Executing}
use Rattle.il_machine.specs.Acts.{Act, Reply}
use Rattle.il_machine.specs.Run.{Step}
use Rattle.il_machine.specs.World.{World}
use Rattle.play_build_laws.specs.Assembly.{Assembly}
use Rattle.play_build_laws.specs.Building.{joining_act, setting_act}
use Rattle.play_forms.specs.Plans.{PlanValue}
use Rattle.play_world_laws.specs.Cast.{links_of}
use Rattle.play_world_laws.specs.PlayWorlds.{PlayCast}
use Rattle.play_plan_laws.specs.Assemblies.{PlayFiles, play_cast_of}
use Rattle.play_result_laws.specs.Asked.{AreBothDone, Asking, BackToIdle, Disabling, Enabling, HasCause, IsDone, Retuning, ToExecuting, ToIdle, ToLoaded, acts_of, change_of, port_sending, sending, tuned}
use Rattle.read_world_laws.specs.Beside.{IsDeclined}
use Rattle.play_history_laws.specs.Order.{Begins, BothHaveTold, Changes, ChangesOn, Cursor, GoesOn, IsAsked, IsChangeAct, IsDone as IsDoneIn, IsDoneBy, IsSending, IsStateTold, nothing_asked, one_more}
use Rattle.play_history_laws.proofs.Keeping.{at_one}
use Rattle.play_history_laws.specs.Askings.{IsPlanHistory, asking_of, read_of}
use Rattle.play_history_laws.specs.Requests.{is_request}
use Rattle.play_history_laws.proofs.Answered.{change_is, ends_told, ports_told, send_is, settings_told, states_told}
use Rattle.play_history_laws.proofs.Askings.{link_is, many}
use Rattle.play_history_laws.proofs.Conducted.{is_request_in, is_request_of}
use Rattle.play_result_laws.proofs.ListFronts.{drop_here, last_is, none_left, none_there, times, times_cut}
use Rattle.play_history_laws.proofs.InTime.{IsRequesting, requests_begin, requests_on}
use Rattle.play_history_laws.proofs.Begun.{AreBegun, HasAsked, IsAskedIn, IsAskedTo, begun_by, begun_more, begun_of, begun_still, changes, front_at, left_of}

-- It has asked one more.
pub record IsOneMore (plan : PlanValue) (files : PlayFiles) (handles : List Handle) (before : List (Act × Reply)) (step : Act × Reply) (j : Cursor) : Type 0 where
  pub is : is_request step ≡ true
  pub asked : HasAsked plan files handles (before ++ step ∷ []) j

module _ (plan : PlanValue) (files : PlayFiles) (handles : List Handle) (w : World) (before : List (Act × Reply)) (k : Cursor) (mid : World) (G : IsPlanHistory plan files handles w before k mid)
    (step : Act × Reply) (u : World) (steps_to : Step mid step.0 step.1 u) (accepted : IsDeclined step.1 → ⊥) (j : Cursor) (asked : IsAsked (play_cast_of plan) k (read_of mid) step.0 j) where
  abbrev c : PlayCast
  c = play_cast_of plan

  abbrev a : Assembly
  a = tuned plan files

  abbrev r : World
  r = read_of mid

  abbrev More : Cursor → Type 0
  More i = IsOneMore plan files handles before step i

  same_many : length handles ≡ length plan.parts
  same_many = many plan files handles w before k mid G

  -- ---- a StateSet

  sent_there : (phase place : ℕ) → 1 ≤ phase → phase ≤ 4 → IsSending c.cast r phase place step.0 → slice_get (acts_of a handles (asking_of phase)) place ≡ Some step
  sent_there phase place low high S = send_is plan files handles w before k mid G phase place step u low high S steps_to accepted

  many_acts : (phase : ℕ) → 1 ≤ phase → phase ≤ 4 → length (acts_of a handles (asking_of phase)) ≡ length handles
  many_acts zero low high = absurd (omega arith)
  many_acts (suc zero) low high = length-map handles (sending Idle)
  many_acts (suc (suc zero)) low high = length-map handles (sending Executing)
  many_acts (suc (suc (suc zero))) low high = length-map handles (sending Idle)
  many_acts (suc (suc (suc (suc zero)))) low high = length-map handles (sending Loaded)
  many_acts (suc (suc (suc (suc (suc n))))) low high = absurd (omega arith)

  -- it goes on
  sends_on : (phase : ℕ) (done : List ℕ) → IsAskedTo plan files handles phase done before k → GoesOn c.cast k r step.0 j → More j
  sends_on phase done P D =
      let list = acts_of a handles (asking_of phase) in
      let e = sent_there phase k.sent P.low P.high (subst (λ (n : ℕ). IsSending c.cast r n k.sent step.0) P.phase_is D.sends) in
      let t = is_request_of a handles (asking_of phase) k.sent step e in
      let b = slice_get_within list k.sent step e in
      let m = many_acts phase P.low P.high in
      let one : k.sent + 1 ≡ suc k.sent = omega arith in
      let left : IsRequesting a handles (begun_by phase done) (step ∷ drop (suc k.sent) list) before = subst (λ (ys : List (Act × Reply)). IsRequesting a handles (begun_by phase done) ys before) (drop_here k.sent list step e) P.asks in
      let asks : IsRequesting a handles (begun_by phase done) (drop (suc k.sent) list) (before ++ step ∷ []) = requests_on a handles (begun_by phase done) step (drop (suc k.sent) list) before t left in
      subst More (sym D.after) (record {
        is = t;
        asked = inr (inl (
          phase,
          done,
          record {
            low = P.low;
            high = P.high;
            some = omega arith;
            within = omega (arith, b, m);
            phase_is = P.phase_is;
            none = P.none;
            early = P.early;
            links = record { once = (P.links).once; late = (P.links).late; none = (P.links).none; some = (P.links).some };
            full = P.full;
            asks = subst (λ (n : ℕ). IsRequesting a handles (begun_by phase done) (drop n list) (before ++ step ∷ [])) (sym one) asks;
          },
        ));
      })

  -- the next one begins
  sends_next : (phase : ℕ) (done : List ℕ) (list : List Asking) → k.phase ≡ phase → phase ≤ 3 → Begins c.cast k r step.0 j → IsRequesting a handles list [] before
      → list ++ asking_of (suc phase) ∷ [] ≡ begun_by (suc phase) done
      → ((one : Asking) (front : List Asking) → list ≡ front ++ one ∷ [] → IsDone a one before × HasCause a (asking_of (suc phase)) before)
      → AreBegun plan files handles done k → (suc phase ≤ 2 → done ≡ []) → (3 ≤ suc phase → (m : ℕ) → m < length plan.joints → ((c.cast).layout).is_late m ≡ true → 1 ≤ times m done) → More j
  sends_next phase done list p high D A e so links early full =
      let these = acts_of a handles (asking_of (suc phase)) in
      let q : k.phase + 1 ≡ suc phase = omega (arith, p) in
      let f = sent_there (suc phase) 0 (omega arith) (omega (arith, high)) (subst (λ (n : ℕ). IsSending c.cast r n 0 step.0) q D.sends) in
      let t = is_request_of a handles (asking_of (suc phase)) 0 step f in
      let b = slice_get_within these 0 step f in
      let m = many_acts (suc phase) (omega arith) (omega (arith, high)) in
      let asks : IsRequesting a handles (list ++ asking_of (suc phase) ∷ []) (drop 1 these) (before ++ step ∷ []) = requests_begin a handles list (asking_of (suc phase)) step (drop 1 these) before t (drop_here 0 these step f) (omega (arith, b, m)) so A in
      subst More (sym D.after) (record {
        is = t;
        asked = inr (inl (
          suc phase,
          done,
          record {
            low = omega arith;
            high = omega (arith, high);
            some = omega arith;
            within = omega (arith, b, m);
            phase_is = q;
            none = refl;
            early = early;
            links = record { once = links.once; late = links.late; none = links.none; some = links.some };
            full = full;
            asks = subst (λ (ls : List Asking). IsRequesting a handles ls (drop 1 these) (before ++ step ∷ [])) e asks;
          },
        ));
      })

  -- where all links are changed each was begun
  all_changed : {links : List ℕ} → AreBegun plan files handles links k → ((m : ℕ) → m < links_of c.cast → ((c.cast).layout).is_late m ≡ true → k.made m ≡ 8) → (m : ℕ) → m < length plan.joints → ((c.cast).layout).is_late m ≡ true → 1 ≤ times m links
  all_changed {links} B C m b t = elim (cases_lt 0 (times m links)) [
    | inl l ↦ omega (arith, l)
    | inr n ↦ let z = B.none m (omega (arith, n)) in let e = C m b t in absurd (omega (arith, z, e))
  ]

  -- ---- behind a StateSet

  module _ (phase : ℕ) (done : List ℕ) (P : IsAskedTo plan files handles phase done before k) where
    nothing_left : IsDoneIn c.cast k r → IsRequesting a handles (begun_by phase done) [] before
    nothing_left D =
        let m = many_acts phase P.low P.high in
        let n = same_many in
        let s = D.all_sent in
        subst (λ (ys : List (Act × Reply)). IsRequesting a handles (begun_by phase done) ys before) (none_left k.sent (acts_of a handles (asking_of phase)) (omega (arith, m, n, s))) P.asks

    told_state : IsDoneIn c.cast k r → IsStateTold c.cast r phase
    told_state D = subst (λ (n : ℕ). IsStateTold c.cast r n) P.phase_is (subst (λ (o : Option ℕ). IsDoneBy c.cast k r o) P.none D.told)

  begins_to : (phase : ℕ) (done : List ℕ) → IsAskedTo plan files handles phase done before k → Begins c.cast k r step.0 j → More j
  begins_to zero done P D = let l = P.low in absurd (omega (arith, l))
  begins_to (suc zero) done P D =
      let all = states_told plan files handles w before k mid G Idle (told_state 1 done P D.done) in
      sends_next 1 done (ToIdle ∷ []) P.phase_is (omega arith) D (nothing_left 1 done P D.done) refl
      (λ one front f. (subst (λ (y : Asking). IsDone a y before) (sym (last_is [] front ToIdle one f)) all, tt))
      P.links (λ _. P.early (omega arith)) (λ b. absurd (omega (arith, b)))
  begins_to (suc (suc zero)) done P D =
      let all = states_told plan files handles w before k mid G Executing (told_state 2 done P D.done) in
      let none : done ≡ [] = P.early (omega arith) in
      sends_next 2 done (ToIdle ∷ ToExecuting ∷ []) P.phase_is (omega arith) D (nothing_left 2 done P D.done)
      (ap (λ (ls : List ℕ). ToIdle ∷ ToExecuting ∷ (changes ls ++ BackToIdle ∷ [])) (sym none))
      (λ one front f. (subst (λ (y : Asking). IsDone a y before) (sym (last_is (ToIdle ∷ []) front ToExecuting one f)) all, ends_told plan files handles w before k mid G (D.ends P.phase_is)))
      P.links (λ b. absurd (omega (arith, b))) (λ _ m b t. all_changed (P.links) (D.changed P.phase_is) m b t)
  begins_to (suc (suc (suc zero))) done P D =
      let all = states_told plan files handles w before k mid G Idle (told_state 3 done P D.done) in
      sends_next 3 done (begun_by 3 done) P.phase_is (omega arith) D (nothing_left 3 done P D.done)
      (ap (λ (ls : List Asking). ToIdle ∷ ToExecuting ∷ ls) (append_assoc (changes done) (BackToIdle ∷ []) (ToLoaded ∷ [])))
      (λ one front f. (subst (λ (y : Asking). IsDone a y before) (sym (last_is (ToIdle ∷ ToExecuting ∷ changes done) front BackToIdle one f)) all, tt))
      P.links (λ b. absurd (omega (arith, b))) (λ _ m b t. P.full (omega arith) m b t)
  begins_to (suc (suc (suc (suc zero)))) done P D = let m = D.more in let p = P.phase_is in absurd (omega (arith, m, p))
  begins_to (suc (suc (suc (suc (suc n))))) done P D = let h = P.high in absurd (omega (arith, h))

  -- ---- a change

  one_more_same : (l m : ℕ) → m ≢ l → (one_more l k).made m ≡ k.made m
  one_more_same l m n = at_one (λ (i : ℕ). i ≡ k.made m) m l (k.made m + 1) (k.made m) (λ e. absurd (n e)) (λ _. refl)

  one_more_now : (l n : ℕ) → k.made l ≡ n → (one_more l k).made l ≡ suc n
  one_more_now l n e = at_one (λ (i : ℕ). i ≡ suc n) l l (k.made l + 1) (k.made l) (λ _. omega (arith, e)) (λ t. absurd (t refl))

  some_part : (l : ℕ) → l < length plan.joints → 1 ≤ length handles
  some_part l b =
      let g = (link_is plan files handles w before k mid G l b).giver_below in
      let m = same_many in
      omega (arith, g, m)

  -- it begins
  changes_next : (done : List ℕ) (D : Changes c k r step.0 j) → length plan.parts ≤ k.sent → IsRequesting a handles (front_at plan files handles done) [] before
      → ((one : Asking) (front : List Asking) → front_at plan files handles done ≡ front ++ one ∷ [] → IsDone a one before) → AreBegun plan files handles done k → More j
  changes_next done D sent A so B =
      let l : ℕ = D.link in
      let cause = settings_told plan files handles w before k mid G l D.below D.announced in
      let e = change_is plan files handles w before k mid G l 0 step u D.below (λ z. absurd (omega (arith, z))) D.its_act steps_to accepted in
      let here : slice_get (acts_of a handles (Disabling l)) 0 ≡ Some step = e in
      let t = is_request_of a handles (Disabling l) 0 step here in
      let none : times l done ≡ 0 = not_there l D.unchanged in
      let asks : IsRequesting a handles (front_at plan files handles done ++ Disabling l ∷ []) (drop 1 (acts_of a handles (Disabling l))) (before ++ step ∷ []) =
      requests_begin a handles (front_at plan files handles done) (Disabling l) step (drop 1 (acts_of a handles (Disabling l))) before t (drop_here 0 (acts_of a handles (Disabling l)) step here) (some_part l D.below) (λ one front f. (so one front f, cause)) A in
      let now = one_more_now l 0 D.unchanged in
      subst More (sym D.after) (record {
        is = t;
        asked = inr (inr (
          done,
          l,
          1,
          record {
            some = omega arith;
            few = omega arith;
            phase_is = D.phase;
            sent_is = sent;
            its = refl;
            made_now = now;
            links = begun_more plan files handles done k (one_more l k) l B D.below D.late none (one_more_same l) (omega (arith, now));
            asks = asks;
          },
        ));
      })
    where
      not_there : (l : ℕ) → k.made l ≡ 0 → times l done ≡ 0
      not_there l z = elim (cases_lt 0 (times l done)) [
        | inl b ↦ let y = B.some l (omega (arith, b)) in absurd (omega (arith, y, z))
        | inr n ↦ omega (arith, n)
      ]

  -- behind two StateSets
  changes_first : (done : List ℕ) → IsAskedTo plan files handles 2 done before k → Changes c k r step.0 j → More j
  changes_first done P D =
      let all = states_told plan files handles w before k mid G Executing (told_state 2 done P D.done) in
      let none : done ≡ [] = P.early (omega arith) in
      changes_next [] D (D.done).all_sent (nothing_left 2 done P D.done)
      (λ one front f. subst (λ (y : Asking). IsDone a y before) (sym (last_is (ToIdle ∷ []) front ToExecuting one f)) all)
      (subst (λ (ls : List ℕ). AreBegun plan files handles ls k) none P.links)

  module _ (done : List ℕ) (l : ℕ) where
    abbrev link_links : List ℕ
    link_links = done ++ l ∷ []

    its_there : 1 ≤ times l link_links
    its_there = let d = times_cut l done [] l in let o = at_one (λ (i : ℕ). i ≡ 1) l l 1 0 (λ _. refl) (λ n. absurd (n refl)) in omega (arith, d, o)

    its_late : {n : ℕ} → IsAskedIn plan files handles done l n before k → l < length plan.joints
    its_late P = ((P.links).late l its_there).0

    -- one act more of it
    goes_in : (n : ℕ) (list : List Asking) → IsAskedIn plan files handles done l n before k → n < 8 → j ≡ one_more l k → is_request step ≡ true
        → list ≡ front_at plan files handles done ++ begun_of l (suc n) → IsRequesting a handles list (left_of plan files handles l (suc n)) (before ++ step ∷ []) → More j
    goes_in n list P b after t e A =
        let now = one_more_now l n P.made_now in
        subst More (sym after) (record {
          is = t;
          asked = inr (inr (
            done,
            l,
            suc n,
            record {
              some = omega arith;
              few = omega (arith, b);
              phase_is = P.phase_is;
              sent_is = P.sent_is;
              its = refl;
              made_now = now;
              links = begun_still plan files handles link_links k (one_more l k) l P.links its_there (one_more_same l) (omega (arith, now));
              asks = subst (λ (ls : List Asking). IsRequesting a handles ls (left_of plan files handles l (suc n)) (before ++ step ∷ [])) e A;
            },
          ));
        })

    -- of an asking that was begun
    further : (n : ℕ) → IsAskedIn plan files handles done l n before k → n < 8 → j ≡ one_more l k → is_request step ≡ true
        → begun_of l n ≡ begun_of l (suc n) → left_of plan files handles l n ≡ step ∷ left_of plan files handles l (suc n) → More j
    further n P b after t same left =
        let list : List Asking = front_at plan files handles done ++ begun_of l n in
        goes_in n list P b after t (ap (λ (ls : List Asking). front_at plan files handles done ++ ls) same)
        (requests_on a handles list step (left_of plan files handles l (suc n)) before t (subst (λ (ys : List (Act × Reply)). IsRequesting a handles list ys before) left P.asks))

    changes_by : (n : ℕ) → IsAskedIn plan files handles done l n before k → n < 8 → j ≡ one_more l k → (n ≡ 2 → AreBothDone a (λ port. completions.Disable port) l before)
        → slice_get (flat_map (acts_of a handles) (change_of l)) n ≡ Some step → More j
    changes_by zero P b after told e = let s = P.some in absurd (omega (arith, s))
    changes_by (suc zero) P b after told e =
        let is : port_sending a handles (λ ports. PortDisable ports) true l ≡ step = cc in
        further 1 P b after (is_request_in a handles (change_of l) 1 step e) refl (ap (λ (y : Act × Reply). y ∷ []) is)
    changes_by (suc (suc zero)) P b after told e =
        let these = acts_of a handles (Retuning l) in
        let list : List Asking = front_at plan files handles done ++ Disabling l ∷ [] in
        let t = is_request_in a handles (change_of l) 2 step e in
        let here : slice_get these 0 ≡ Some step = e in
        goes_in 2 (list ++ Retuning l ∷ []) P b after t (append_assoc (front_at plan files handles done) (Disabling l ∷ []) (Retuning l ∷ []))
        (requests_begin a handles list (Retuning l) step (drop 1 these) before t (drop_here 0 these step here) (some_part l (its_late P))
        (λ one front f. (subst (λ (y : Asking). IsDone a y before) (sym (last_is (front_at plan files handles done) front (Disabling l) one f)) (told refl), tt)) P.asks)
    changes_by (suc (suc (suc zero))) P b after told e =
        let is : setting_act a handles false l ≡ step = cc in
        further 3 P b after (is_request_in a handles (change_of l) 3 step e) refl (ap (λ (y : Act × Reply). y ∷ drop 2 (acts_of a handles (Retuning l))) is)
    changes_by (suc (suc (suc (suc zero)))) P b after told e =
        let is : setting_act a handles true l ≡ step = cc in
        further 4 P b after (is_request_in a handles (change_of l) 4 step e) refl (ap (λ (y : Act × Reply). y ∷ drop 3 (acts_of a handles (Retuning l))) is)
    changes_by (suc (suc (suc (suc (suc zero))))) P b after told e =
        let is : joining_act a handles l ≡ step = cc in
        further 5 P b after (is_request_in a handles (change_of l) 5 step e) refl (ap (λ (y : Act × Reply). y ∷ []) is)
    changes_by (suc (suc (suc (suc (suc (suc zero)))))) P b after told e =
        let these = acts_of a handles (Enabling l) in
        let list : List Asking = front_at plan files handles done ++ Disabling l ∷ Retuning l ∷ [] in
        let t = is_request_in a handles (change_of l) 6 step e in
        let here : slice_get these 0 ≡ Some step = e in
        goes_in 6 (list ++ Enabling l ∷ []) P b after t (append_assoc (front_at plan files handles done) (Disabling l ∷ Retuning l ∷ []) (Enabling l ∷ []))
        (requests_begin a handles list (Enabling l) step (drop 1 these) before t (drop_here 0 these step here) (some_part l (its_late P))
        (λ one front f. (retuned one front f, tt)) P.asks)
      where
        retuned : (one : Asking) (front : List Asking) → front_at plan files handles done ++ Disabling l ∷ Retuning l ∷ [] ≡ front ++ one ∷ [] → IsDone a one before
        retuned one front f =
            let split = append_assoc (front_at plan files handles done) (Disabling l ∷ []) (Retuning l ∷ []) in
            let nothing : IsDone a (Retuning l) before = tt in
            subst (λ (y : Asking). IsDone a y before) (sym (last_is (front_at plan files handles done ++ Disabling l ∷ []) front (Retuning l) one (split ∙ f))) nothing
    changes_by (suc (suc (suc (suc (suc (suc (suc zero))))))) P b after told e =
        let is : port_sending a handles (λ ports. PortEnable ports) true l ≡ step = cc in
        further 7 P b after (is_request_in a handles (change_of l) 7 step e) refl (ap (λ (y : Act × Reply). y ∷ []) is)
    changes_by (suc (suc (suc (suc (suc (suc (suc (suc n)))))))) P b after told e = absurd (omega (arith, b))

  module _ (done : List ℕ) (l n : ℕ) (P : IsAskedIn plan files handles done l n before k) where
    abbrev whole : List Asking
    whole = front_at plan files handles done ++ Disabling l ∷ Retuning l ∷ Enabling l ∷ []

    -- it goes on
    changes_on : ChangesOn c k r step.0 j → More j
    changes_on D =
        let both : Some l ≡ Some D.link = sym P.its ∙ D.its in
        let same : l ≡ D.link = cc in
        let made : k.made D.link ≡ n = ap k.made (sym same) ∙ P.made_now in
        let more = D.more in
        let at_link : IsChangeAct c r D.link n step.0 = subst (λ (i : ℕ). IsChangeAct c r D.link i step.0) made D.its_act in
        let act : IsChangeAct c r l n step.0 = subst (λ (i : ℕ). IsChangeAct c r i n step.0) (sym same) at_link in
        changes_by done l n P (omega (arith, made, more)) (D.after ∙ ap (λ (i : ℕ). one_more i k) (sym same))
        (λ two. ports_told plan files handles w before k mid G (λ port. completions.Disable port) l (its_late done l P)
        (subst (λ (i : ℕ). BothHaveTold c.cast r (λ port. completions.Disable port) i) (sym same) (D.disabled (made ∙ two))))
        (change_is plan files handles w before k mid G l n step u (its_late done l P) (λ z. (P.its, P.made_now ∙ z)) act steps_to accepted)

    module _ (D : IsDoneIn c.cast k r) where
      told_in : (k.made l ≡ 8) × BothHaveTold c.cast r (λ port. completions.Enable port) l
      told_in = subst (λ (o : Option ℕ). IsDoneBy c.cast k r o) P.its D.told

      asks_whole : IsRequesting a handles whole [] before
      asks_whole = subst (λ (i : ℕ). IsRequesting a handles (front_at plan files handles done ++ begun_of l i) (left_of plan files handles l i) before) (sym P.made_now ∙ told_in.0) P.asks

      last_done : (one : Asking) (front : List Asking) → whole ≡ front ++ one ∷ [] → IsDone a one before
      last_done one front f =
          let split = append_assoc (front_at plan files handles done) (Disabling l ∷ Retuning l ∷ []) (Enabling l ∷ []) in
          let enabled : IsDone a (Enabling l) before = ports_told plan files handles w before k mid G (λ port. completions.Enable port) l (its_late done l P) told_in.1 in
          subst (λ (y : Asking). IsDone a y before) (sym (last_is (front_at plan files handles done ++ Disabling l ∷ Retuning l ∷ []) front (Enabling l) one (split ∙ f))) enabled

    whole_is : whole ≡ front_at plan files handles (done ++ l ∷ [])
    whole_is = ap (λ (ls : List Asking). ToIdle ∷ ToExecuting ∷ ls) (sym (flat_map-append change_of done (l ∷ [])))

    begins_in : Begins c.cast k r step.0 j → More j
    begins_in D =
        sends_next 2 (done ++ l ∷ []) whole P.phase_is (omega arith) D (asks_whole D.done)
        (ap (λ (ls : List Asking). ls ++ BackToIdle ∷ []) whole_is)
        (λ one front f. (last_done D.done one front f, ends_told plan files handles w before k mid G (D.ends P.phase_is)))
        P.links (λ b. absurd (omega (arith, b))) (λ _ m b t. all_changed P.links (D.changed P.phase_is) m b t)

    changes_in : Changes c k r step.0 j → More j
    changes_in D =
        changes_next (done ++ l ∷ []) D P.sent_is (subst (λ (ls : List Asking). IsRequesting a handles ls [] before) whole_is (asks_whole D.done))
        (λ one front f. last_done D.done one front (whole_is ∙ f)) P.links

    -- the StateSet before it went to all
    goes_not : GoesOn c.cast k r step.0 j → More j
    goes_not D =
        let e = sent_there 2 k.sent (omega arith) (omega arith) (subst (λ (i : ℕ). IsSending c.cast r i k.sent step.0) P.phase_is D.sends) in
        let b = slice_get_within (acts_of a handles ToExecuting) k.sent step e in
        let m = many_acts 2 (omega arith) (omega arith) in
        let o = same_many in
        let q = P.sent_is in
        absurd (omega (arith, b, m, o, q))

  -- ---- the first

  module _ (A : IsRequesting a handles [] [] before) (e : k ≡ nothing_asked c.cast) where
    phase_none : k.phase ≡ 0
    phase_none = ap (λ (i : Cursor). i.phase) e

    begins_first : Begins c.cast k r step.0 j → More j
    begins_first D =
        sends_next 0 [] [] phase_none (omega arith) D A refl (λ one front f. absurd (none_there front [] one f))
        (record {
          once = λ m. omega arith;
          late = λ m b. absurd (omega (arith, b));
          none = λ m _. ap (λ (i : Cursor). i.made m) e;
          some = λ m b. absurd (omega (arith, b));
        })
        (λ _. refl) (λ b. absurd (omega (arith, b)))

    changing_none : (l : ℕ) → k.changing ≡ Some l → ⊥
    changing_none l t = let z : None ≡ Some l = sym (ap (λ (i : Cursor). i.changing) e) ∙ t in absurd cc

  -- ---- all

  pub one_more_asked : HasAsked plan files handles before k → More j
  one_more_asked H = elim H [
    | inl F ↦ elim asked [
      | inl D ↦ let p = phase_none F.0 F.1 in let b = D.begun in absurd (omega (arith, p, b))
      | inr B ↦ elim B [
        | inl D ↦ begins_first F.0 F.1 D
        | inr E ↦ elim E [
          | inl D ↦ let p = phase_none F.0 F.1 in let q = D.phase in absurd (omega (arith, p, q))
          | inr D ↦ absurd (changing_none F.0 F.1 D.link D.its)
        ]
      ]
    ]
    | inr Q ↦ elim Q [
      | inl S ↦ sent_so S.0 S.1 S.2
      | inr C ↦ change_so C.0 C.1 C.2 C.3
    ]
  ]
    where
      sent_so : (phase : ℕ) (done : List ℕ) → IsAskedTo plan files handles phase done before k → More j
      sent_so phase done P = elim asked [
        | inl D ↦ sends_on phase done P D
        | inr B ↦ elim B [
          | inl D ↦ begins_to phase done P D
          | inr E ↦ elim E [
            | inl D ↦ changes_first done (subst (λ (i : ℕ). IsAskedTo plan files handles i done before k) (sym P.phase_is ∙ D.phase) P) D
            | inr D ↦ let z : None ≡ Some D.link = sym P.none ∙ D.its in absurd cc
          ]
        ]
      ]

      change_so : (done : List ℕ) (l n : ℕ) → IsAskedIn plan files handles done l n before k → More j
      change_so done l n P = elim asked [
        | inl D ↦ goes_not done l n P D
        | inr B ↦ elim B [
          | inl D ↦ begins_in done l n P D
          | inr E ↦ elim E [
            | inl D ↦ changes_in done l n P D
            | inr D ↦ changes_on done l n P D
          ]
        ]
      ]
