-- The next request of a play is what its cursor may ask for next.
use Rattle.std.proofs.Common.{◌≡◌, ◌≢◌, inl, inr, ℕ, zero, suc, ◌+◌, ◌<◌, ◌≤◌, true, nat_eq, List, [], ◌∷◌, ◌++◌, take, length, slice_get, Option, Some, None, refl, sym, ◌∙◌, ap, subst, append-nil, append_assoc, arith}
use Rattle.std.specs.Prelude.{cond, flat_map}
use Rattle.std.proofs.lemmas.Bool.{cases_eq, cases_lt}
use Rattle.omx_types.specs.declared.command.Completion.TheVariants as completions
use Rattle.omx_types.specs.declared.handle.Handle.{Handle}
use Rattle.omx_types.specs.declared.state.State.TheVariants.{Idle, Executing}
use Rattle.il_machine.specs.Acts.{Act, Reply}
use Rattle.il_machine.specs.World.{World}
use Rattle.play_build_laws.specs.Assembly.{Assembly}
use Rattle.play_forms.specs.Plans.{PlanValue}
use Rattle.play_world_laws.specs.Cast.{links_of}
use Rattle.play_world_laws.specs.PlayWorlds.{PlayCast}
use Rattle.play_world_laws.specs.Standing.{target}
use Rattle.play_plan_laws.specs.Assemblies.{PlayFiles, play_cast_of}
use Rattle.play_result_laws.specs.Asked.{AreLateLinks, Asking, BackToIdle, Disabling, Enabling, HasCause, IsDone, Retuning, ToExecuting, ToIdle, ToLoaded, acts_of, askings, change_of, tuned}
use Rattle.read_world_laws.specs.Beside.{IsDeclined}
use Rattle.play_history_laws.specs.Order.{BothHaveTold, Cursor, EachHasHeard, IsAsked, IsChangeAct, IsDone as IsDoneIn, IsDoneBy, IsSending, IsStateTold, nothing_asked, one_more}
use Rattle.play_history_laws.proofs.Keeping.{at_one}
use Rattle.play_history_laws.specs.Askings.{IsPlanHistory, asking_of, read_of}
use Rattle.play_history_laws.specs.Requests.{AreInTime, is_request, requests}
use Rattle.play_history_laws.proofs.Askings.{changes_asked, ends_heard, link_is, many, ports_heard, sends_asked, settings_heard, states_heard}
use Rattle.play_result_laws.proofs.ListFronts.{next_behind, next_here, times, times_cut}
use Rattle.play_history_laws.proofs.Places as places

-- It is asked by the cursor, and leads to the next place.
pub record IsNextOf (plan : PlanValue) (files : PlayFiles) (handles : List Handle) (links : List ℕ) (before : List (Act × Reply)) (step : Act × Reply) (k : Cursor) (mid : World) : Type 0 where
  pub next : Cursor
  pub asks : IsAsked (play_cast_of plan) k (read_of mid) step.0 next
  pub accepted : IsDeclined step.1 → ⊥
  pub place : places.IsPlace plan files handles links (before ++ step ∷ []) next

module _ (plan : PlanValue) (files : PlayFiles) (handles : List Handle) (links : List ℕ) (late : AreLateLinks (tuned plan files) links)
    (steps before after more : List (Act × Reply)) (step : Act × Reply) (timely : AreInTime (tuned plan files) handles (askings links) steps)
    (cut : steps ≡ before ++ step ∷ after) (is : is_request step ≡ true) (made : requests before ++ step ∷ more ≡ flat_map (acts_of (tuned plan files) handles) (askings links))
    (w : World) (k : Cursor) (mid : World) (G : IsPlanHistory plan files handles w before k mid) where
  abbrev x : PlayCast
  x = play_cast_of plan

  abbrev s : Assembly
  s = tuned plan files

  abbrev u : World
  u = read_of mid

  abbrev all : List Asking → List (Act × Reply)
  all list = flat_map (acts_of s handles) list

  abbrev Next : Type 0
  Next = IsNextOf plan files handles links before step k mid

  same_many : length handles ≡ length plan.parts
  same_many = many plan files handles w before k mid G

  -- where an asking is done that was made whole, and the next one begins
  begins_at : (front rest : List Asking) (one next : Asking) → askings links ≡ front ++ one ∷ next ∷ rest → requests before ≡ all (front ++ one ∷ []) → IsDone s one before × HasCause s next before
  begins_at front rest one next l m = places.timely_at plan files handles links steps before after step timely cut is front rest one next l m

  -- ---- a StateSet

  sends : (phase place : ℕ) → 1 ≤ phase → phase ≤ 4 → slice_get (all (asking_of phase ∷ [])) place ≡ Some step → IsSending x.cast u phase place step.0 × (IsDeclined step.1 → ⊥)
  sends phase place low high e =
      sends_asked plan files handles w before k mid G phase place step low high
      (ap (λ (ys : List (Act × Reply)). slice_get ys place) (sym (append-nil (acts_of s handles (asking_of phase)))) ∙ e)

  -- it goes on
  goes_on : (phase n : ℕ) → places.IsSentTo plan files handles links phase n before k → n < length handles → Next
  goes_on phase n P b =
      let many_there = places.many_sent plan files handles links phase P.low P.high in
      let e = next_here n (all (asking_of phase ∷ [])) (all (places.rest_of plan files handles links phase)) more step
      (places.ahead plan files handles links (places.front_of plan files handles links phase) (asking_of phase ∷ []) (places.rest_of plan files handles links phase) n before (step ∷ more)
      (places.list_by plan files handles links phase P.low P.high) P.made made)
      (omega (arith, many_there, b)) in
      let S = sends phase n P.low P.high e in
      let p = P.phase_is in
      let q = P.sent_is in
      let low = P.low in
      let placed : IsSending x.cast u k.phase k.sent step.0 = rw (p, q) S.0 in
      record {
        next = record k { sent = k.sent + 1 };
        asks = inl (record { begun = omega (arith, p, low); sends = placed; after = refl });
        accepted = S.1;
        place = inr (inl (
          phase,
          suc n,
          record {
            low = P.low;
            high = P.high;
            some = omega arith;
            within = omega (arith, b);
            phase_is = p;
            sent_is = omega (arith, q);
            none = P.none;
            early = P.early;
            made = places.made_on plan files handles links (places.front_of plan files handles links phase) (asking_of phase ∷ []) n before step P.made is e;
          },
        ));
      }

  -- the next one begins
  begins : (phase : ℕ) → k.phase ≡ phase → phase ≤ 3 → 1 ≤ length handles → IsDoneIn x.cast k u
      → (phase ≡ 2 → (l : ℕ) → l < links_of x.cast → ((x.cast).layout).is_late l ≡ true → k.made l ≡ 8)
      → (phase ≡ 2 → EachHasHeard x.cast u (λ number progress. ((x.cast).layout).is_sink number ≡ true → progress.eos ≡ true))
      → (suc phase ≤ 2 → (l : ℕ) → k.made l ≡ 0)
      → requests before ≡ all (places.front_of plan files handles links (suc phase)) → (rest : List Asking) → step ∷ more ≡ all (asking_of (suc phase) ∷ rest) → Next
  begins phase p high some D changed ends early m rest e =
      let front : List Asking = places.front_of plan files handles links (suc phase) in
      let many_there = places.many_sent plan files handles links (suc phase) (omega arith) (omega (arith, high)) in
      let here = next_here 0 (all (asking_of (suc phase) ∷ [])) (all rest) more step (e ∙ places.all_both plan files handles links (asking_of (suc phase) ∷ []) rest) (omega (arith, many_there, some)) in
      let S = sends (suc phase) 0 (omega arith) (omega (arith, high)) here in
      let q : k.phase + 1 ≡ suc phase = omega (arith, p) in
      let placed : IsSending x.cast u (k.phase + 1) 0 step.0 = rw q S.0 in
      record {
        next = record { phase = k.phase + 1; sent = 1; made = k.made; changing = None };
        asks = inr (inl (record { more = omega (arith, p, high); done = D; changed = λ t. changed (sym p ∙ t); ends = λ t. ends (sym p ∙ t); sends = placed; after = refl }));
        accepted = S.1;
        place = inr (inl (
          suc phase,
          1,
          record {
            low = omega arith;
            high = omega (arith, high);
            some = omega arith;
            within = some;
            phase_is = q;
            sent_is = refl;
            none = refl;
            early = early;
            made = places.made_on plan files handles links front (asking_of (suc phase) ∷ []) 0 before step (places.made_none_yet plan files handles links front (asking_of (suc phase) ∷ []) before m) is here;
          },
        ));
      }

  -- ---- a change

  -- it begins
  changes : (done todo : List ℕ) (l : ℕ) → links ≡ done ++ l ∷ todo → k.phase ≡ 2 → length plan.parts ≤ k.sent → IsDoneIn x.cast k u → HasCause s (Disabling l) before
      → ((m : ℕ) → 1 ≤ times m done → k.made m ≡ 8) → ((m : ℕ) → times m done ≡ 0 → k.made m ≡ 0)
      → requests before ≡ all (places.front_at plan files handles links done) → (rest : List Asking) → step ∷ more ≡ all (change_of l ++ rest) → Next
  changes done todo l e p q D cause made_done made_none m rest f =
      let front : List Asking = places.front_at plan files handles links done in
      let once = places.once_more plan files handles links l done todo in
      let same = ap (λ (ls : List ℕ). times l ls) e in
      let O = places.late_of plan files handles links late l (omega (arith, same, once)) in
      let count = O.2 in
      let here : slice_get (all (change_of l)) 0 ≡ Some step = sym (ap (λ (ys : List (Act × Reply)). slice_get ys 0) f) in
      let none : k.made l ≡ 0 = made_none l (omega (arith, same, once, count)) in
      let A = changes_asked plan files handles w before k mid G l 0 step O.0 here in
      record {
        next = one_more l k;
        asks = inr (inr (inl (record {
          phase = p;
          done = D;
          link = l;
          below = O.0;
          late = O.1;
          unchanged = none;
          announced = settings_heard plan files handles w before k mid G l O.0 cause;
          its_act = A.0;
          after = refl;
        })));
        accepted = A.1;
        place = inr (inr (
          done,
          todo,
          l,
          1,
          record {
            links_are = e;
            some = omega arith;
            few = omega arith;
            phase_is = p;
            sent_is = q;
            its = refl;
            made_now = at_one (λ (n : ℕ). n ≡ 1) l l (k.made l + 1) (k.made l) (λ _. omega (arith, none)) (λ n. absurd (n refl));
            made_done = λ i n c. at_one (λ (a : ℕ). a ≡ 8) i l (k.made i + 1) (k.made i) (λ t. absurd (n t)) (λ _. made_done i c);
            made_none = λ i n c. at_one (λ (a : ℕ). a ≡ 0) i l (k.made i + 1) (k.made i) (λ t. absurd (n t)) (λ _. made_none i c);
            made = places.made_on plan files handles links front (change_of l) 0 before step (places.made_none_yet plan files handles links front (change_of l) before m) is here;
          },
        ));
      }

  module _ (done todo : List ℕ) (l n : ℕ) (P : places.IsInChange plan files handles links done todo l n before k) where
    split : askings links ≡ places.front_at plan files handles links done ++ (change_of l ++ places.rest_at plan files handles links todo)
    split = places.list_at plan files handles links done todo l P.links_are

    coming : take n (all (change_of l)) ++ step ∷ more ≡ all (change_of l) ++ all (places.rest_at plan files handles links todo)
    coming = places.ahead plan files handles links (places.front_at plan files handles links done) (change_of l) (places.rest_at plan files handles links todo) n before (step ∷ more) split P.made made

    its_late : (l < length plan.joints) × (((x.cast).layout).is_late l ≡ true) × (times l links ≡ 1)
    its_late =
        let once = places.once_more plan files handles links l done todo in
        let same = ap (λ (ls : List ℕ). times l ls) P.links_are in
        places.late_of plan files handles links late l (omega (arith, same, once))

    -- it goes on
    changes_on : n < 8 → Next
    changes_on b =
        let front : List Asking = places.front_at plan files handles links done in
        let e = next_here n (all (change_of l)) (all (places.rest_at plan files handles links todo)) more step coming b in
        let A = changes_asked plan files handles w before k mid G l n step its_late.0 e in
        let q = P.made_now in
        let act : IsChangeAct x u l (k.made l) step.0 = rw q A.0 in
        record {
          next = one_more l k;
          asks = inr (inr (inr (record {
            link = l;
            its = P.its;
            more = omega (arith, q, b);
            disabled = λ two. disabled (omega (arith, q, two));
            its_act = act;
            after = refl;
          })));
          accepted = A.1;
          place = inr (inr (
            done,
            todo,
            l,
            suc n,
            record {
              links_are = P.links_are;
              some = omega arith;
              few = omega (arith, b);
              phase_is = P.phase_is;
              sent_is = P.sent_is;
              its = refl;
              made_now = at_one (λ (a : ℕ). a ≡ suc n) l l (k.made l + 1) (k.made l) (λ _. omega (arith, q)) (λ t. absurd (t refl));
              made_done = λ i t c. at_one (λ (a : ℕ). a ≡ 8) i l (k.made i + 1) (k.made i) (λ z. absurd (t z)) (λ _. P.made_done i t c);
              made_none = λ i t c. at_one (λ (a : ℕ). a ≡ 0) i l (k.made i + 1) (k.made i) (λ z. absurd (t z)) (λ _. P.made_none i t c);
              made = places.made_on plan files handles links front (change_of l) n before step P.made is e;
            },
          ));
        }
      where
        disabled : n ≡ 2 → BothHaveTold x.cast u (λ port. completions.Disable port) l
        disabled two =
            let front : List Asking = places.front_at plan files handles links done in
            let m : requests before ≡ all front ++ take 2 (all (change_of l)) = P.made ∙ ap (λ (i : ℕ). all front ++ take i (all (change_of l))) two in
            let D = begins_at front (Enabling l ∷ places.rest_at plan files handles links todo) (Disabling l) (Retuning l) split (m ∙ sym (places.all_both plan files handles links front (Disabling l ∷ []))) in
            ports_heard plan files handles w before k mid G (λ port. completions.Disable port) l its_late.0 D.0

    -- ---- it is whole

    module _ (b : 8 ≤ n) where
      whole : requests before ≡ all (places.front_at plan files handles links done ++ change_of l)
      whole = places.made_whole plan files handles links (places.front_at plan files handles links done) (change_of l) n before P.made b

      behind : step ∷ more ≡ all (places.rest_at plan files handles links todo)
      behind = next_behind n (all (change_of l)) (all (places.rest_at plan files handles links todo)) more step coming b

      eight : k.made l ≡ 8
      eight = let a = P.made_now in let c = P.few in omega (arith, a, b, c)

      -- what the enabling has told
      ended : (next : Asking) (rest : List Asking) → askings links ≡ places.front_at plan files handles links done ++ (change_of l ++ next ∷ rest) → IsDone s (Enabling l) before × HasCause s next before
      ended next rest f =
          let front : List Asking = places.front_at plan files handles links done in
          begins_at (front ++ Disabling l ∷ Retuning l ∷ []) rest (Enabling l) next
          (f ∙ sym (append_assoc front (Disabling l ∷ Retuning l ∷ []) (Enabling l ∷ next ∷ rest)))
          (whole ∙ ap all (sym (append_assoc front (Disabling l ∷ Retuning l ∷ []) (Enabling l ∷ []))))

      so_done : IsDone s (Enabling l) before → IsDoneIn x.cast k u
      so_done D =
          let told : IsDoneBy x.cast k u (Some l) = (eight, ports_heard plan files handles w before k mid G (λ port. completions.Enable port) l its_late.0 D) in
          record { all_sent = P.sent_is; told = subst (λ (o : Option ℕ). IsDoneBy x.cast k u o) (sym P.its) told }

      made_before : (m : ℕ) → 1 ≤ times m (done ++ l ∷ []) → k.made m ≡ 8
      made_before m c = elim (cases_eq m l) [
        | inl e ↦ ap k.made e ∙ eight
        | inr t ↦ P.made_done m t (not_last m t c)
      ]
        where
          not_last : (m : ℕ) → m ≢ l → 1 ≤ times m (done ++ l ∷ []) → 1 ≤ times m done
          not_last m t c =
              let e = times_cut m done [] l in
              let z : ◌≡◌ {A = ℕ} (cond (nat_eq l m) 1 0) 0 = at_one (λ (a : ℕ). a ≡ 0) l m 1 0 (λ q. absurd (t (sym q))) (λ _. refl) in
              omega (arith, e, z, c)

      unmade_yet : (m : ℕ) → times m (done ++ l ∷ []) ≡ 0 → k.made m ≡ 0
      unmade_yet m c = elim (cases_eq m l) [
        | inl e ↦ let o = places.once_more plan files handles links l done [] in let f = ap (λ (i : ℕ). times i (done ++ l ∷ [])) e in absurd (omega (arith, c, o, f))
        | inr t ↦ let e = times_cut m done [] l in P.made_none m t (omega (arith, e, c))
      ]

      some_part : 1 ≤ length handles
      some_part =
          let K = link_is plan files handles w before k mid G l its_late.0 in
          let g = K.giver_below in
          let m = same_many in
          omega (arith, g, m)

      -- what comes then, by the links that are left
      behind_it : (ls : List ℕ) → todo ≡ ls → Next
      behind_it [] e =
          let D = ended BackToIdle (ToLoaded ∷ []) (split ∙ ap (λ (t : List ℕ). places.front_at plan files handles links done ++ (change_of l ++ places.rest_at plan files handles links t)) e) in
          let last : links ≡ done ++ l ∷ [] = P.links_are ∙ ap (λ (t : List ℕ). done ++ l ∷ t) e in
          begins 2 P.phase_is (omega arith) some_part (so_done D.0)
          (λ _ m c t. made_before m (subst (λ (ls : List ℕ). 1 ≤ times m ls) last (places.among plan files handles links late m c t)))
          (λ _. ends_heard plan files handles w before k mid G D.1)
          (λ c. absurd (omega (arith, c)))
          (whole ∙ ap all (places.front_more plan files handles links done l ∙ ap (λ (ls : List ℕ). places.front_at plan files handles links ls) (sym last)))
          (ToLoaded ∷ [])
          (behind ∙ ap (λ (t : List ℕ). all (places.rest_at plan files handles links t)) e)
      behind_it (next ∷ ls) e =
          let rest : List Asking = places.rest_at plan files handles links ls in
          let D = ended (Disabling next) (Retuning next ∷ Enabling next ∷ rest) (split ∙ ap (λ (t : List ℕ). places.front_at plan files handles links done ++ (change_of l ++ places.rest_at plan files handles links t)) e) in
          let more_links : links ≡ (done ++ l ∷ []) ++ next ∷ ls = P.links_are ∙ (ap (λ (t : List ℕ). done ++ l ∷ t) e ∙ sym (append_assoc done (l ∷ []) (next ∷ ls))) in
          changes (done ++ l ∷ []) ls next more_links P.phase_is P.sent_is (so_done D.0) D.1 made_before unmade_yet
          (whole ∙ ap all (places.front_more plan files handles links done l))
          rest
          (behind ∙ ap (λ (t : List ℕ). all (places.rest_at plan files handles links t)) e)

    pub in_change_next : Next
    in_change_next = elim (cases_lt n 8) [
      | inl b ↦ changes_on b
      | inr b ↦ behind_it b todo refl
    ]

  -- ---- behind a StateSet

  module _ (phase n : ℕ) (P : places.IsSentTo plan files handles links phase n before k) (b : length handles ≤ n) where
    sent_whole : requests before ≡ all (places.front_of plan files handles links phase ++ asking_of phase ∷ [])
    sent_whole =
        let e = places.many_sent plan files handles links phase P.low P.high in
        places.made_whole plan files handles links (places.front_of plan files handles links phase) (asking_of phase ∷ []) n before P.made (omega (arith, e, b))

    sent_behind : step ∷ more ≡ all (places.rest_of plan files handles links phase)
    sent_behind =
        let e = places.many_sent plan files handles links phase P.low P.high in
        next_behind n (all (asking_of phase ∷ [])) (all (places.rest_of plan files handles links phase)) more step
        (places.ahead plan files handles links (places.front_of plan files handles links phase) (asking_of phase ∷ []) (places.rest_of plan files handles links phase) n before (step ∷ more)
        (places.list_by plan files handles links phase P.low P.high) P.made made)
        (omega (arith, e, b))

    some_handle : 1 ≤ length handles
    some_handle = let a = P.some in let c = P.within in omega (arith, a, c)

    all_sent : length plan.parts ≤ k.sent
    all_sent = let q = P.sent_is in let m = same_many in omega (arith, q, m, b)

    told_so : (before_it : ℕ) → phase ≡ suc before_it → EachHasHeard x.cast u (λ number progress. progress.state ≡ Some (target (suc before_it))) → IsDoneIn x.cast k u
    told_so i e H =
        let told : IsStateTold x.cast u (suc i) = H in
        let at_phase : IsStateTold x.cast u k.phase = subst (λ (j : ℕ). IsStateTold x.cast u j) (sym (P.phase_is ∙ e)) told in
        record { all_sent = all_sent; told = subst (λ (o : Option ℕ). IsDoneBy x.cast k u o) (sym P.none) at_phase }

  sent_next : (phase n : ℕ) → places.IsSentTo plan files handles links phase n before k → length handles ≤ n → Next
  sent_next zero n P b = let l = P.low in absurd (omega (arith, l))
  sent_next (suc zero) n P b =
      let D = begins_at [] (places.changes plan files handles links links ++ places.back plan files handles links) ToIdle ToExecuting refl (sent_whole 1 n P b) in
      begins 1 P.phase_is (omega arith) (some_handle 1 n P b) (told_so 1 n P b 0 refl (states_heard plan files handles w before k mid G Idle D.0))
      (λ e. absurd (omega (arith, e))) (λ e. absurd (omega (arith, e))) (λ _. P.early (omega arith))
      (sent_whole 1 n P b) (places.changes plan files handles links links ++ places.back plan files handles links) (sent_behind 1 n P b)
  sent_next (suc (suc zero)) n P b = by_links links refl
    where
      by_links : (ls : List ℕ) → links ≡ ls → Next
      by_links [] e =
          let D = begins_at (ToIdle ∷ []) (ToLoaded ∷ []) ToExecuting BackToIdle (ap (λ (t : List ℕ). askings t) e) (sent_whole 2 n P b) in
          begins 2 P.phase_is (omega arith) (some_handle 2 n P b) (told_so 2 n P b 1 refl (states_heard plan files handles w before k mid G Executing D.0))
          (λ _ l c t. let i = places.among plan files handles links late l c t in let z = ap (λ (ls : List ℕ). times l ls) e in absurd (omega (arith, i, z)))
          (λ _. ends_heard plan files handles w before k mid G D.1)
          (λ c. absurd (omega (arith, c)))
          (sent_whole 2 n P b ∙ ap (λ (t : List ℕ). all (places.front_at plan files handles links t)) (sym e))
          (ToLoaded ∷ [])
          (sent_behind 2 n P b ∙ ap (λ (t : List ℕ). all (places.rest_at plan files handles links t)) e)
      by_links (l ∷ ls) e =
          let rest : List Asking = places.rest_at plan files handles links ls in
          let D = begins_at (ToIdle ∷ []) (Retuning l ∷ Enabling l ∷ rest) ToExecuting (Disabling l) (ap (λ (t : List ℕ). askings t) e) (sent_whole 2 n P b) in
          changes [] ls l e P.phase_is (all_sent 2 n P b) (told_so 2 n P b 1 refl (states_heard plan files handles w before k mid G Executing D.0)) D.1
          (λ i c. absurd (omega (arith, c)))
          (λ i c. P.early (omega arith) i)
          (sent_whole 2 n P b)
          rest
          (sent_behind 2 n P b ∙ ap (λ (t : List ℕ). all (places.rest_at plan files handles links t)) e)
  sent_next (suc (suc (suc zero))) n P b =
      let D = begins_at (places.front_of plan files handles links 3) [] BackToIdle ToLoaded refl (sent_whole 3 n P b) in
      begins 3 P.phase_is (omega arith) (some_handle 3 n P b) (told_so 3 n P b 2 refl (states_heard plan files handles w before k mid G Idle D.0))
      (λ e. absurd (omega (arith, e))) (λ e. absurd (omega (arith, e))) (λ c. absurd (omega (arith, c)))
      (sent_whole 3 n P b) [] (sent_behind 3 n P b)
  sent_next (suc (suc (suc (suc zero)))) n P b = let z : step ∷ more ≡ [] = sent_behind 4 n P b in absurd cc
  sent_next (suc (suc (suc (suc (suc i))))) n P b = let l = P.high in absurd (omega (arith, l))

  -- ---- the first request

  fresh_next : requests before ≡ [] → k ≡ nothing_asked x.cast → Next
  fresh_next none e =
      let first : step ∷ more ≡ all (askings links) = ap (λ (ys : List (Act × Reply)). ys ++ step ∷ more) (sym none) ∙ made in
      let phase : k.phase ≡ 0 = ap (λ (c : Cursor). c.phase) e in
      let sent : k.sent ≡ length plan.parts = ap (λ (c : Cursor). c.sent) e in
      let changing : k.changing ≡ None = ap (λ (c : Cursor). c.changing) e in
      let nothing : IsStateTold x.cast u 0 = tt in
      let at_phase : IsStateTold x.cast u k.phase = subst (λ (j : ℕ). IsStateTold x.cast u j) (sym phase) nothing in
      begins 0 phase (omega arith) (some_handles first)
      (record { all_sent = omega (arith, sent); told = subst (λ (o : Option ℕ). IsDoneBy x.cast k u o) (sym changing) at_phase })
      (λ z. absurd (omega (arith, z))) (λ z. absurd (omega (arith, z))) (λ _ l. ap (λ (c : Cursor). c.made l) e)
      none (ToExecuting ∷ (places.changes plan files handles links links ++ places.back plan files handles links)) first
    where
      -- without a component no link is there, and nothing is asked
      some_handles : step ∷ more ≡ all (askings links) → 1 ≤ length handles
      some_handles first = by_handles handles refl
        where
          none_linked : length handles ≡ 0 → (ls : List ℕ) → links ≡ ls → ls ≡ []
          none_linked z [] f = refl
          none_linked z (l ∷ ls) f =
              let once = places.once_more plan files handles links l [] ls in
              let same = ap (λ (t : List ℕ). times l t) f in
              let O = places.late_of plan files handles links late l (omega (arith, same, once)) in
              let g = (link_is plan files handles w before k mid G l O.0).giver_below in
              let m = same_many in
              absurd (omega (arith, g, m, z))

          by_handles : (hs : List Handle) → handles ≡ hs → 1 ≤ length handles
          by_handles [] f =
              let no_links : links ≡ [] = none_linked (ap (λ (hs : List Handle). length hs) f) links refl in
              let z : step ∷ more ≡ flat_map (acts_of s []) (askings []) = first ∙ (ap (λ (t : List ℕ). all (askings t)) no_links ∙ ap (λ (hs : List Handle). flat_map (acts_of s hs) (askings [])) f) in
              absurd cc
          by_handles (h ∷ hs) f = let z = ap (λ (t : List Handle). length t) f in omega (arith, z)

  -- ---- from any place

  pub asked_next : places.IsPlace plan files handles links before k → Next
  asked_next P = elim P [
    | inl F ↦ fresh_next F.0 F.1
    | inr Q ↦ elim Q [
      | inl S ↦ elim (cases_lt S.1 (length handles)) [
        | inl b ↦ goes_on S.0 S.1 S.2 b
        | inr b ↦ sent_next S.0 S.1 S.2 b
      ]
      | inr C ↦ in_change_next C.0 C.1 C.2 C.3 C.4
    ]
  ]
