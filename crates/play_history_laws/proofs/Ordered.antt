-- Of each history of a plan what its conductor asked is a front of all that is asked, in time.
use Rattle.std.proofs.Common.{◌≡◌, ◌≢◌, ◌⊎◌, inl, inr, ℕ, zero, suc, ◌+◌, ◌<◌, ◌≤◌, Bool, true, false, ◌&&◌, ◌==◌, nat_eq, nat_lt, if◌then◌else◌, List, [], ◌∷◌, ◌++◌, drop, length, refl, sym, ◌∙◌, ap, subst, append-nil, append_assoc, eqb-true, eq-eqb, lt-ltb, ltb-true, arith}
use Rattle.std.specs.Prelude.{cond, flat_map}
use Rattle.std.proofs.lemmas.Bool.{cases_eq, cases_lt}
use Rattle.std.proofs.lemmas.List.{length-map}
use Rattle.std.proofs.lemmas.List.Concat.{flat_map-append}
use Rattle.std.proofs.lemmas.List.Sums.{sum_by-append, sum_by-cons}
use Rattle.omx_types.specs.declared.handle.Handle.{Handle}
use Rattle.omx_types.specs.declared.state.State.TheVariants.{Loaded}
use Rattle.il_machine.specs.Acts.{Act, Reply}
use Rattle.il_machine.specs.Acts as acts
use Rattle.il_machine.specs.Kinds.{is_late}
use Rattle.il_machine.specs.World.{World}
use Rattle.machine_laws.proofs.Accepting.{both_of}
use Rattle.machine_laws.proofs.Finding.{either}
use Rattle.play_build_laws.specs.Assembly.{Assembly, kind_at}
use Rattle.play_build_laws.specs.Stages.{IsStage, Joining}
use Rattle.play_forms.specs.Plans.{PlanValue}
use Rattle.play_world_laws.specs.PlayWorlds.{PlayCast}
use Rattle.play_plan_laws.specs.Assemblies.{IsReady, PlayFiles, assembly_of, play_cast_of}
use Rattle.play_result_laws.specs.Asked.{AreLateLinks, Asking, BackToIdle, Disabling, Enabling, Retuning, ToExecuting, ToIdle, ToLoaded, acts_of, askings, change_of, sending, tuned}
use Rattle.play_history_laws.specs.Histories.{IsUnasked}
use Rattle.play_history_laws.specs.Order.{Cursor, nothing_asked}
use Rattle.play_history_laws.specs.Faults.{IsFailedStep, IsFaultHistory}
use Rattle.play_history_laws.specs.Askings.{IsPlanHistory}
use Rattle.play_history_laws.specs.Requests.{AreInTime, AreRequested, IsOrdered, is_request, is_request_act, requests}
use Rattle.play_history_laws.proofs.Askings.{accepted_next, many}
use Rattle.play_history_laws.proofs.Begun.{AreBegun, HasAsked, IsAskedIn, IsAskedTo, begun_by, begun_of, changes, front_at, left_of, still_asked}
use Rattle.play_history_laws.proofs.Requesting.{one_more_asked}
use Rattle.play_result_laws.proofs.ListFronts.{none_left, times}
use Rattle.play_history_laws.proofs.InTime.{IsRequesting, requests_none}
use Rattle.play_result_laws.proofs.InTime.{timely_beyond}
use Rattle.play_history_laws.proofs.Places.{late_is}
use Rattle.play_history_laws.proofs.Requested.{history_on}

-- ---- the links that are left

module _ (p : ℕ → Bool) (chosen : List ℕ) where
  abbrev is_other : ℕ → Bool
  is_other l = p l && nat_eq (times l chosen) 0

  abbrev pub others : ℕ → List ℕ
  others zero = []
  others (suc n) = if is_other n then n ∷ others n else others n

  -- one more
  times_here : (l n : ℕ) → times l (n ∷ others n) ≡ cond (n == l) 1 0 + times l (others n)
  times_here l n = sum_by-cons (λ (k : ℕ). cond (k == l) 1 0) n (others n)

  skipped : (l n : ℕ) → l ≢ n → times l (others (suc n)) ≡ times l (others n)
  skipped l n d = either (is_other n)
      (λ t. ap (λ (q : Bool). times l (if q then n ∷ others n else others n)) t ∙ (times_here l n ∙ other (nat_eq n l) refl))
      (λ f. ap (λ (q : Bool). times l (if q then n ∷ others n else others n)) f)
    where
      other : (q : Bool) → nat_eq n l ≡ q → cond (n == l) 1 0 + times l (others n) ≡ times l (others n)
      other true e = absurd (d (sym (eqb-true n l e)))
      other false e = ap (λ (b : Bool). cond b 1 0 + times l (others n)) e ∙ omega arith

  none_beyond : (l n : ℕ) → n ≤ l → times l (others n) ≡ 0
  none_beyond l zero b = refl
  none_beyond l (suc n) b = skipped l n (λ e. omega (arith, e, b)) ∙ none_beyond l n (omega (arith, b))

  -- it is among them where it is such a one, and only there
  pub times_others : (l n : ℕ) → l < n → times l (others n) ≡ (if is_other l then 1 else 0)
  times_others l zero b = absurd (omega arith)
  times_others l (suc n) b = elim (cases_eq l n) [
    | inl e ↦ subst (λ (i : ℕ). times i (others (suc n)) ≡ (if is_other i then 1 else 0)) (sym e) (last n)
    | inr d ↦ skipped l n d ∙ times_others l n (below l n b d)
  ]
    where
      below : (l n : ℕ) → l < suc n → l ≢ n → l < n
      below l n b d = elim (cases_lt l n) [ inl c ↦ c | inr c ↦ absurd (d (omega (arith, b, c))) ]

      last : (n : ℕ) → times n (others (suc n)) ≡ (if is_other n then 1 else 0)
      last n = either (is_other n)
          (λ t.
          let z = none_beyond n n (omega arith) in
          let o = times_here n n ∙ ap (λ (q : Bool). cond q 1 0 + times n (others n)) (eq-eqb n n refl) in
          ap (λ (q : Bool). times n (if q then n ∷ others n else others n)) t ∙ (omega (arith, o, z) ∙ ap (λ (q : Bool). if q then 1 else 0) (sym t)))
          (λ f. ap (λ (q : Bool). times n (if q then n ∷ others n else others n)) f ∙ (none_beyond n n (omega arith) ∙ ap (λ (q : Bool). if q then 1 else 0) (sym f)))

-- ---- what needs no asking is no request

unasked_none : (a : Act) → IsUnasked a → is_request_act a ≡ false
unasked_none (acts.RunCommand h) U = refl
unasked_none (acts.Claim h) U = refl
unasked_none (acts.Finish done) U = refl
unasked_none (acts.Supply h port) U = refl
unasked_none (acts.Release h port) U = refl
unasked_none (acts.HandOver h port) U = refl
unasked_none (acts.HandBack h port) U = refl
unasked_none (acts.TakeNote h) U = refl
unasked_none (acts.EndNote h progress) U = refl
unasked_none (acts.Progress h) U = refl
unasked_none _ U = absurd U

failed_none : (a : Act) → IsFailedStep a → is_request_act a ≡ false
failed_none (acts.Finish done) F = refl
failed_none _ F = absurd F

module _ (plan : PlanValue) (files : PlayFiles) (handles : List Handle) where
  abbrev x : PlayCast
  x = play_cast_of plan

  abbrev s : Assembly
  s = tuned plan files

  abbrev all : List Asking → List (Act × Reply)
  all list = flat_map (acts_of s handles) list

  abbrev back : List Asking
  back = BackToIdle ∷ ToLoaded ∷ []

  abbrev is_late_at : ℕ → Bool
  is_late_at l = is_late (kind_at s false l)

  abbrev left_links : List ℕ → List ℕ
  left_links done = others is_late_at done (length plan.joints)

  -- ---- all late sources' links

  module _ (done : List ℕ) (k : Cursor) (B : AreBegun plan files handles done k) where
    is_there : (l : ℕ) → 1 ≤ times l done → (nat_lt l (length plan.joints) ≡ true) × (is_late_at l ≡ true)
    is_there l b = let t = B.late l b in (lt-ltb l (length plan.joints) t.0, late_is plan files l ∙ t.1)

    pub late_all : AreLateLinks s (done ++ left_links done)
    late_all l = sum_by-append (λ (k : ℕ). cond (k == l) 1 0) done (left_links done) ∙ either (nat_lt l (length plan.joints) && is_late_at l)
        (λ t.
        let b = both_of (nat_lt l (length plan.joints)) (is_late_at l) t in
        let o = times_others is_late_at done l (length plan.joints) (ltb-true l (length plan.joints) b.0) in
        by_some l b.1 (cases_lt 0 (times l done)) o ∙ ap (λ (q : Bool). if q then 1 else 0) (sym t))
        (λ f. none l f ∙ ap (λ (q : Bool). if q then 1 else 0) (sym f))
      where
        by_some : (l : ℕ) → is_late_at l ≡ true → ((0 < times l done) ⊎ (times l done ≤ 0)) → times l (left_links done) ≡ (if is_other is_late_at done l then 1 else 0) → times l done + times l (left_links done) ≡ 1
        by_some l t (inl b) o =
            let once = B.once l in
            let some : nat_eq (times l done) 0 ≡ false = not_zero (times l done) b in
            let z : times l (left_links done) ≡ 0 = o ∙ rw (t, some) refl in
            omega (arith, once, b, z)
          where
            not_zero : (n : ℕ) → 0 < n → nat_eq n 0 ≡ false
            not_zero n b = either (nat_eq n 0) (λ t. let e = eqb-true n 0 t in absurd (omega (arith, b, e))) (λ f. f)
        by_some l t (inr b) o =
            let zero_times : times l done ≡ 0 = omega (arith, b) in
            let yes : nat_eq (times l done) 0 ≡ true = eq-eqb (times l done) 0 zero_times in
            let one : times l (left_links done) ≡ 1 = o ∙ rw (t, yes) refl in
            omega (arith, zero_times, one)

        none : (l : ℕ) → (nat_lt l (length plan.joints) && is_late_at l) ≡ false → times l done + times l (left_links done) ≡ 0
        none l f = elim (cases_lt 0 (times l done)) [
          | inl b ↦ let t = is_there l (omega (arith, b)) in let z : (true && true) ≡ false = rw (t.0, t.1) at f in absurd cc
          | inr b ↦ elim (cases_lt l (length plan.joints)) [
            | inl c ↦
                let o = times_others is_late_at done l (length plan.joints) c in
                let in_them : nat_lt l (length plan.joints) ≡ true = lt-ltb l (length plan.joints) c in
                let not_late : is_late_at l ≡ false = ap (λ (q : Bool). q && is_late_at l) (sym in_them) ∙ f in
                let z : times l (left_links done) ≡ 0 = o ∙ rw not_late refl in
                omega (arith, b, z)
            | inr c ↦ let z = none_beyond is_late_at done l (length plan.joints) c in omega (arith, b, z)
          ]
        ]

    -- where each was begun
    pub late_full : ((m : ℕ) → m < length plan.joints → ((x.cast).layout).is_late m ≡ true → 1 ≤ times m done) → AreLateLinks s done
    late_full full l = either (nat_lt l (length plan.joints) && is_late_at l)
        (λ t.
        let b = both_of (nat_lt l (length plan.joints)) (is_late_at l) t in
        let some = full l (ltb-true l (length plan.joints) b.0) (sym (late_is plan files l) ∙ b.1) in
        let once = B.once l in
        omega (arith, some, once) ∙ ap (λ (q : Bool). if q then 1 else 0) (sym t))
        (λ f. elim (cases_lt 0 (times l done)) [
          | inl b ↦ let t = is_there l (omega (arith, b)) in let z : (true && true) ≡ false = rw (t.0, t.1) at f in absurd cc
          | inr b ↦ omega (arith, b) ∙ ap (λ (q : Bool). if q then 1 else 0) (sym f)
        ])

  -- ---- the list that goes on

  extended : (links : List ℕ) (list more : List Asking) (left steps : List (Act × Reply)) → AreLateLinks s links → IsRequesting s handles list left steps → list ++ more ≡ askings links → AreRequested s handles links (left ++ all more) steps
  extended links list more left steps late A e = record {
    late = late;
    made = sym (append_assoc (requests steps) left (all more)) ∙ (ap (λ (ys : List (Act × Reply)). ys ++ all more) A.made ∙ (sym (flat_map-append (acts_of s handles) list more) ∙ ap all e));
    timely = subst (λ (ls : List Asking). AreInTime s handles ls steps) e (timely_beyond s handles is_request list more left steps A.made A.timely);
  }

  -- what comes behind so much of a change
  abbrev behind_of : ℕ → ℕ → List Asking
  behind_of l zero = Disabling l ∷ Retuning l ∷ Enabling l ∷ []
  behind_of l (suc zero) = Retuning l ∷ Enabling l ∷ []
  behind_of l (suc (suc zero)) = Retuning l ∷ Enabling l ∷ []
  behind_of l (suc (suc (suc zero))) = Enabling l ∷ []
  behind_of l (suc (suc (suc (suc zero)))) = Enabling l ∷ []
  behind_of l (suc (suc (suc (suc (suc zero))))) = Enabling l ∷ []
  behind_of l (suc (suc (suc (suc (suc (suc zero)))))) = Enabling l ∷ []
  behind_of l _ = []

  both_of_change : (l n : ℕ) → begun_of l n ++ behind_of l n ≡ change_of l
  both_of_change l zero = refl
  both_of_change l (suc zero) = refl
  both_of_change l (suc (suc zero)) = refl
  both_of_change l (suc (suc (suc zero))) = refl
  both_of_change l (suc (suc (suc (suc zero)))) = refl
  both_of_change l (suc (suc (suc (suc (suc zero))))) = refl
  both_of_change l (suc (suc (suc (suc (suc (suc zero)))))) = refl
  both_of_change l (suc (suc (suc (suc (suc (suc (suc n))))))) = refl

  module _ (steps : List (Act × Reply)) (k : Cursor) (same_many : length handles ≡ length plan.parts) where
    abbrev Ordered : Type 0
    Ordered = IsOrdered plan files handles steps k

    not_yet : (left : List (Act × Reply)) → (k.phase ≡ 4 → ⊥) → k.phase ≡ 4 → length plan.parts ≤ k.sent → left ≡ []
    not_yet left N p s = absurd (N p)

    none_begun : (k.made ≡ (λ (l : ℕ). 0)) → AreBegun plan files handles [] k
    none_begun e = record {
      once = λ m. omega arith;
      late = λ m b. absurd (omega (arith, b));
      none = λ m _. ap (λ (f : ℕ → ℕ). f m) e;
      some = λ m b. absurd (omega (arith, b));
    }

    ordered_fresh : IsRequesting s handles [] [] steps → k ≡ nothing_asked x.cast → Ordered
    ordered_fresh A e =
        let links : List ℕ = left_links [] in
        record {
          links = links;
          left = all (askings links);
          are = extended links [] (askings links) [] steps (late_all [] k (none_begun (ap (λ (c : Cursor). c.made) e))) A refl;
          whole = not_yet (all (askings links)) (λ p. (let q = ap (λ (c : Cursor). c.phase) e in absurd (omega (arith, p, q))));
        }

    ordered_to : (phase : ℕ) (done : List ℕ) → IsAskedTo plan files handles phase done steps k → Ordered
    ordered_to zero done P = let l = P.low in absurd (omega (arith, l))
    ordered_to (suc zero) done P =
        let none : done ≡ [] = P.early (omega arith) in
        let links : List ℕ = done ++ left_links done in
        let more : List Asking = ToExecuting ∷ (changes links ++ back) in
        let left : List (Act × Reply) = drop k.sent (acts_of s handles ToIdle) ++ all more in
        record { links = links; left = left; are = extended links (ToIdle ∷ []) more (drop k.sent (acts_of s handles ToIdle)) steps (late_all done k P.links) P.asks refl; whole = not_yet left (λ p. (let q = P.phase_is in omega (arith, p, q))) }
    ordered_to (suc (suc zero)) done P =
        let links : List ℕ = done ++ left_links done in
        let more : List Asking = changes links ++ back in
        let left : List (Act × Reply) = drop k.sent (acts_of s handles ToExecuting) ++ all more in
        record { links = links; left = left; are = extended links (ToIdle ∷ ToExecuting ∷ []) more (drop k.sent (acts_of s handles ToExecuting)) steps (late_all done k P.links) P.asks refl; whole = not_yet left (λ p. (let q = P.phase_is in omega (arith, p, q))) }
    ordered_to (suc (suc (suc zero))) done P =
        let left : List (Act × Reply) = drop k.sent (acts_of s handles BackToIdle) ++ all (ToLoaded ∷ []) in
        record {
          links = done;
          left = left;
          are = extended done (begun_by 3 done) (ToLoaded ∷ []) (drop k.sent (acts_of s handles BackToIdle)) steps (late_full done k P.links (P.full (omega arith))) P.asks
              (ap (λ (ls : List Asking). ToIdle ∷ ToExecuting ∷ ls) (append_assoc (changes done) (BackToIdle ∷ []) (ToLoaded ∷ [])));
          whole = not_yet left (λ p. (let q = P.phase_is in omega (arith, p, q)));
        }
    ordered_to (suc (suc (suc (suc zero)))) done P =
        let left : List (Act × Reply) = drop k.sent (acts_of s handles ToLoaded) ++ all [] in
        record {
          links = done;
          left = left;
          are = extended done (begun_by 4 done) [] (drop k.sent (acts_of s handles ToLoaded)) steps (late_full done k P.links (P.full (omega arith))) P.asks (append-nil (begun_by 4 done));
          whole = λ p b.
              (let m = length-map handles (sending Loaded) in
              append-nil (drop k.sent (acts_of s handles ToLoaded)) ∙ none_left k.sent (acts_of s handles ToLoaded) (omega (arith, m, same_many, b)));
        }
    ordered_to (suc (suc (suc (suc (suc n))))) done P = let h = P.high in absurd (omega (arith, h))

    ordered_in : (done : List ℕ) (l n : ℕ) → IsAskedIn plan files handles done l n steps k → Ordered
    ordered_in done l n P =
        let begun : List ℕ = done ++ l ∷ [] in
        let later : List ℕ = left_links begun in
        let links : List ℕ = begun ++ later in
        let more : List Asking = behind_of l n ++ (changes later ++ back) in
        let left : List (Act × Reply) = left_of plan files handles l n ++ all more in
        record {
          links = links;
          left = left;
          are = extended links (front_at plan files handles done ++ begun_of l n) more (left_of plan files handles l n) steps (late_all begun k P.links) P.asks (joined later);
          whole = not_yet left (λ p. (let q = P.phase_is in omega (arith, p, q)));
        }
      where
        joined : (later : List ℕ) → (front_at plan files handles done ++ begun_of l n) ++ (behind_of l n ++ (changes later ++ back)) ≡ askings ((done ++ l ∷ []) ++ later)
        joined later =
            append_assoc (front_at plan files handles done) (begun_of l n) (behind_of l n ++ (changes later ++ back))
            ∙ (ap (λ (ls : List Asking). front_at plan files handles done ++ ls)
            (sym (append_assoc (begun_of l n) (behind_of l n) (changes later ++ back)) ∙ ap (λ (ls : List Asking). ls ++ (changes later ++ back)) (both_of_change l n))
            ∙ ap (λ (ls : List Asking). ToIdle ∷ ToExecuting ∷ ls)
            (sym (append_assoc (changes done) (change_of l) (changes later ++ back))
            ∙ (ap (λ (ls : List Asking). ls ++ (changes later ++ back)) (sym (flat_map-append change_of done (l ∷ [])))
            ∙ (sym (append_assoc (changes (done ++ l ∷ [])) (changes later) back) ∙ ap (λ (ls : List Asking). ls ++ back) (sym (flat_map-append change_of (done ++ l ∷ []) later))))))

    pub ordered : HasAsked plan files handles steps k → Ordered
    ordered H = elim H [
      | inl F ↦ ordered_fresh F.0 F.1
      | inr Q ↦ elim Q [
        | inl S ↦ ordered_to S.0 S.1 S.2
        | inr C ↦ ordered_in C.0 C.1 C.2 C.3
      ]
    ]

-- ---- along a history

module _ (plan : PlanValue) (files : PlayFiles) (handles : List Handle) (w : World) (ready : IsReady plan files) (stage : IsStage (assembly_of plan files) (Joining (length plan.joints)) handles w) (j : Cursor) (v : World) where
  abbrev cast : PlayCast
  cast = play_cast_of plan

  asks_on : (after before : List (Act × Reply)) (k : Cursor) (mid : World) → IsFaultHistory cast (nothing_asked cast.cast) w before k mid → HasAsked plan files handles before k → IsFaultHistory cast k mid after j v → HasAsked plan files handles (before ++ after) j
  asks_on [] before k mid G H (e, f) = subst (λ (i : Cursor). HasAsked plan files handles (before ++ []) i) (sym e) (subst (λ (ys : List (Act × Reply)). HasAsked plan files handles ys k) (sym (append-nil before)) H)
  asks_on (step ∷ after) before k mid G H (i, u, m, s, A, rest) =
      let next : IsFaultHistory cast (nothing_asked cast.cast) w (before ++ step ∷ []) i u = history_on cast before (nothing_asked cast.cast) w k mid G step i u m s A in
      let is : HasAsked plan files handles (before ++ step ∷ []) i = elim A [
        | inl O ↦ subst (λ (c : Cursor). HasAsked plan files handles (before ++ step ∷ []) c) (sym O.1) (still_asked plan files handles before step k (elim O.0 [ inl U ↦ unasked_none step.0 U | inr F ↦ failed_none step.0 F ]) H)
        | inr B ↦
            let T : IsPlanHistory plan files handles w before k mid = record { ready = ready; stage = stage; goes = G } in
            (one_more_asked plan files handles w before k mid T step u s (accepted_next plan files handles w before k mid T step u s i B) i B H).asked
      ] in
      subst (λ (ys : List (Act × Reply)). HasAsked plan files handles ys j) (append_assoc before (step ∷ []) after) (asks_on after (before ++ step ∷ []) i u next is rest)

pub history_ordered : (plan : PlanValue) (files : PlayFiles) (handles : List Handle) (w : World) (steps : List (Act × Reply)) (k : Cursor) (v : World) → IsPlanHistory plan files handles w steps k v → IsOrdered plan files handles steps k
history_ordered plan files handles w steps k v G =
    let H = asks_on plan files handles w G.ready G.stage k v steps [] (nothing_asked (play_cast_of plan).cast) w (refl, refl) (inl (requests_none (tuned plan files) handles, refl)) G.goes in
    ordered plan files handles steps k (many plan files handles w steps k v G) H
