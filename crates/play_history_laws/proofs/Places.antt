-- Where the steps of a play stand in the list of all that is asked, by the cursor.
use Rattle.std.proofs.Common.{◌≡◌, ◌≢◌, ◌⊎◌, inl, inr, ℕ, zero, suc, ◌+◌, ◌<◌, ◌≤◌, Bool, true, false, ◌&&◌, nat_lt, if◌then◌else◌, List, [], ◌∷◌, ◌++◌, take, length, slice_get, Option, Some, None, refl, sym, ◌∙◌, ap, append-nil, append_assoc, length-append, eq-eqb, lt-ltb, ltb-true, arith}
use Rattle.std.specs.Prelude.{cond, flat_map}
use Rattle.std.proofs.lemmas.List.{append_cancel_left, length-map, take_all}
use Rattle.std.proofs.lemmas.List.Concat.{flat_map-append}
use Rattle.omx_types.specs.declared.handle.Handle.{Handle}
use Rattle.omx_types.specs.declared.state.State.TheVariants.{Idle, Loaded}
use Rattle.il_machine.specs.Acts.{Act, Reply}
use Rattle.il_machine.specs.Kinds.{is_late}
use Rattle.machine_laws.proofs.Accepting.{both_of}
use Rattle.machine_laws.proofs.Finding.{either}
use Rattle.script_lang.specs.declared.play_line.PartLine.{PartLine}
use Rattle.play_build_laws.specs.Assembly.{Assembly, kind_at}
use Rattle.play_forms.specs.Parts.{passes_at}
use Rattle.play_forms.specs.Plans.{PlanValue}
use Rattle.play_world_laws.specs.PlayWorlds.{PlayCast}
use Rattle.play_plan_laws.specs.Assemblies.{PlayFiles, kind_in, play_cast_of}
use Rattle.play_plan_laws.specs.Casting.{joint_of}
use Rattle.play_result_laws.specs.Asked.{AreLateLinks, Asking, BackToIdle, HasCause, IsDone, ToExecuting, ToIdle, ToLoaded, acts_of, askings, change_of, sending, tuned}
use Rattle.play_history_laws.specs.Order.{Cursor, nothing_asked}
use Rattle.play_history_laws.specs.Askings.{asking_of}
use Rattle.play_history_laws.specs.Requests.{AreInTime, is_request, requests}
use Rattle.play_result_laws.proofs.ListFronts.{cut_at, cut_next, cut_take, kept_too, none_behind, take_next, times, times_cut}

late_kind : (o : Option PartLine) → is_late (kind_in o) ≡ passes_at is_late o
late_kind None = refl
late_kind (Some part) = refl

pub late_is : (plan : PlanValue) (files : PlayFiles) (l : ℕ) → is_late (kind_at (tuned plan files) false l) ≡ (((play_cast_of plan).cast).layout).is_late l
late_is plan files l = late_kind (slice_get plan.parts (joint_of plan l).giver)

module _ (plan : PlanValue) (files : PlayFiles) (handles : List Handle) (links : List ℕ) where
  abbrev x : PlayCast
  x = play_cast_of plan

  abbrev s : Assembly
  s = tuned plan files

  abbrev all : List Asking → List (Act × Reply)
  all list = flat_map (acts_of s handles) list

  abbrev pub changes : List ℕ → List Asking
  changes ls = flat_map change_of ls

  abbrev pub back : List Asking
  back = BackToIdle ∷ ToLoaded ∷ []

  -- ---- the list

  -- what comes before the StateSets of that number, and behind them
  abbrev pub front_of : ℕ → List Asking
  front_of (suc zero) = []
  front_of (suc (suc zero)) = ToIdle ∷ []
  front_of (suc (suc (suc zero))) = ToIdle ∷ ToExecuting ∷ changes links
  front_of _ = ToIdle ∷ ToExecuting ∷ (changes links ++ BackToIdle ∷ [])

  abbrev pub rest_of : ℕ → List Asking
  rest_of (suc zero) = ToExecuting ∷ (changes links ++ back)
  rest_of (suc (suc zero)) = changes links ++ back
  rest_of (suc (suc (suc zero))) = ToLoaded ∷ []
  rest_of _ = []

  pub list_by : (phase : ℕ) → 1 ≤ phase → phase ≤ 4 → askings links ≡ front_of phase ++ (asking_of phase ∷ rest_of phase)
  list_by zero a b = absurd (omega arith)
  list_by (suc zero) a b = refl
  list_by (suc (suc zero)) a b = refl
  list_by (suc (suc (suc zero))) a b = refl
  list_by (suc (suc (suc (suc zero)))) a b = ap (λ (t : List Asking). ToIdle ∷ ToExecuting ∷ t) (sym (append_assoc (changes links) (BackToIdle ∷ []) (ToLoaded ∷ [])))
  list_by (suc (suc (suc (suc (suc n))))) a b = absurd (omega arith)

  -- before the change of a link, and behind it
  abbrev pub front_at : List ℕ → List Asking
  front_at done = ToIdle ∷ ToExecuting ∷ changes done

  abbrev pub rest_at : List ℕ → List Asking
  rest_at todo = changes todo ++ back

  pub list_at : (done todo : List ℕ) (l : ℕ) → links ≡ done ++ l ∷ todo → askings links ≡ front_at done ++ (change_of l ++ rest_at todo)
  list_at done todo l e =
      ap (λ (ls : List ℕ). askings ls) e
      ∙ ap (λ (t : List Asking). ToIdle ∷ ToExecuting ∷ t)
      (ap (λ (t : List Asking). t ++ back) (flat_map-append change_of done (l ∷ todo)) ∙ append_assoc (changes done) (change_of l ++ changes todo) back)

  pub front_more : (done : List ℕ) (l : ℕ) → front_at done ++ change_of l ≡ front_at (done ++ l ∷ [])
  front_more done l = ap (λ (t : List Asking). ToIdle ∷ ToExecuting ∷ t) (sym (flat_map-append change_of done (l ∷ [])))

  pub all_both : (front rest : List Asking) → all (front ++ rest) ≡ all front ++ all rest
  all_both front rest = flat_map-append (acts_of s handles) front rest

  pub many_sent : (phase : ℕ) → 1 ≤ phase → phase ≤ 4 → length (all (asking_of phase ∷ [])) ≡ length handles
  many_sent zero a b = absurd (omega arith)
  many_sent (suc zero) a b = ap length (append-nil (acts_of s handles ToIdle)) ∙ length-map handles _
  many_sent (suc (suc zero)) a b = ap length (append-nil (acts_of s handles ToExecuting)) ∙ length-map handles _
  many_sent (suc (suc (suc zero))) a b = ap length (append-nil (acts_of s handles BackToIdle)) ∙ length-map handles _
  many_sent (suc (suc (suc (suc zero)))) a b = ap length (append-nil (acts_of s handles ToLoaded)) ∙ length-map handles _
  many_sent (suc (suc (suc (suc (suc n))))) a b = absurd (omega arith)

  -- ---- links of late sources

  module _ (late : AreLateLinks s links) where
    pub late_of : (l : ℕ) → 1 ≤ times l links → (l < length plan.joints) × (((x.cast).layout).is_late l ≡ true) × (times l links ≡ 1)
    late_of l many = either (nat_lt l (length plan.joints) && is_late (kind_at s false l))
        (λ t.
        let b = both_of (nat_lt l (length plan.joints)) (is_late (kind_at s false l)) t in
        (ltb-true l (length plan.joints) b.0, sym (late_is plan files l) ∙ b.1, late l ∙ ap (λ (q : Bool). if q then 1 else 0) t))
        (λ f. let n = late l ∙ ap (λ (q : Bool). if q then 1 else 0) f in absurd (omega (arith, n, many)))

    pub among : (l : ℕ) → l < length plan.joints → ((x.cast).layout).is_late l ≡ true → 1 ≤ times l links
    among l b t =
        let n = late l in
        let below : nat_lt l (length plan.joints) ≡ true = lt-ltb l (length plan.joints) b in
        let kind : is_late (kind_at s false l) ≡ true = late_is plan files l ∙ t in
        let both : (nat_lt l (length plan.joints) && is_late (kind_at s false l)) ≡ true = rw (below, kind) refl in
        let one = n ∙ ap (λ (q : Bool). if q then 1 else 0) both in
        omega (arith, one)

    pub none_else : (l : ℕ) → times l links ≤ 1
    none_else l = either (nat_lt l (length plan.joints) && is_late (kind_at s false l))
        (λ t. let n = late l ∙ ap (λ (q : Bool). if q then 1 else 0) t in omega (arith, n))
        (λ f. let n = late l ∙ ap (λ (q : Bool). if q then 1 else 0) f in omega (arith, n))

  pub once_more : (l : ℕ) (done todo : List ℕ) → times l (done ++ l ∷ todo) ≡ times l done + (1 + times l todo)
  once_more l done todo = times_cut l done todo l ∙ ap (λ (q : Bool). times l done + (cond q 1 0 + times l todo)) (eq-eqb l l refl)

  -- ---- the places

  -- all of the front was requested, and so much of the group behind it
  abbrev pub IsMade : List Asking → List Asking → ℕ → List (Act × Reply) → Type 0
  IsMade front group n steps = requests steps ≡ all front ++ take n (all group)

  -- the StateSet of that number was sent to so many
  pub record IsSentTo (phase n : ℕ) (steps : List (Act × Reply)) (k : Cursor) : Type 0 where
    pub low : 1 ≤ phase
    pub high : phase ≤ 4
    pub some : 1 ≤ n
    pub within : n ≤ length handles
    pub phase_is : k.phase ≡ phase
    pub sent_is : k.sent ≡ n
    pub none : k.changing ≡ None
    pub early : phase ≤ 2 → (l : ℕ) → k.made l ≡ 0
    pub made : IsMade (front_of phase) (asking_of phase ∷ []) n steps

  -- so many acts of the change of the link were made
  pub record IsInChange (done todo : List ℕ) (l n : ℕ) (steps : List (Act × Reply)) (k : Cursor) : Type 0 where
    pub links_are : links ≡ done ++ l ∷ todo
    pub some : 1 ≤ n
    pub few : n ≤ 8
    pub phase_is : k.phase ≡ 2
    pub sent_is : length plan.parts ≤ k.sent
    pub its : k.changing ≡ Some l
    pub made_now : k.made l ≡ n
    pub made_done : (m : ℕ) → m ≢ l → 1 ≤ times m done → k.made m ≡ 8
    pub made_none : (m : ℕ) → m ≢ l → times m done ≡ 0 → k.made m ≡ 0
    pub made : IsMade (front_at done) (change_of l) n steps

  abbrev pub IsPlace : List (Act × Reply) → Cursor → Type 0
  IsPlace steps k =
      ((requests steps ≡ []) × (k ≡ nothing_asked x.cast))
      ⊎ (((phase : ℕ) × (n : ℕ) × IsSentTo phase n steps k)
      ⊎ ((done : List ℕ) × (todo : List ℕ) × (l : ℕ) × (n : ℕ) × IsInChange done todo l n steps k))

  -- ---- one request more

  pub made_on : (front group : List Asking) (n : ℕ) (before : List (Act × Reply)) (step : Act × Reply) → IsMade front group n before → is_request step ≡ true → slice_get (all group) n ≡ Some step
      → IsMade front group (suc n) (before ++ step ∷ [])
  made_on front group n before step m t e =
      kept_too is_request before step t
      ∙ (ap (λ (ys : List (Act × Reply)). ys ++ step ∷ []) m
      ∙ (append_assoc (all front) (take n (all group)) (step ∷ []) ∙ ap (λ (ys : List (Act × Reply)). all front ++ ys) (sym (take_next n (all group) step e))))

  pub made_none_yet : (front group : List Asking) (before : List (Act × Reply)) → requests before ≡ all front → IsMade front group 0 before
  made_none_yet front group before e = e ∙ sym (append-nil (all front))

  pub made_whole : (front group : List Asking) (n : ℕ) (before : List (Act × Reply)) → IsMade front group n before → length (all group) ≤ n → requests before ≡ all (front ++ group)
  made_whole front group n before m b = m ∙ (ap (λ (ys : List (Act × Reply)). all front ++ ys) (take_all n (all group) b) ∙ sym (all_both front group))

  -- what is still to come
  pub ahead : (front group rest : List Asking) (n : ℕ) (before more : List (Act × Reply)) → askings links ≡ front ++ (group ++ rest) → IsMade front group n before → requests before ++ more ≡ all (askings links)
      → take n (all group) ++ more ≡ all group ++ all rest
  ahead front group rest n before more l m e =
      append_cancel_left (all front) (take n (all group) ++ more) (all group ++ all rest)
      (sym (append_assoc (all front) (take n (all group)) more)
      ∙ (ap (λ (ys : List (Act × Reply)). ys ++ more) (sym m)
      ∙ (e ∙ (ap all l ∙ (all_both front (group ++ rest) ∙ ap (λ (ys : List (Act × Reply)). all front ++ ys) (all_both group rest))))))

  -- where the next one begins
  pub timely_at : (steps before after : List (Act × Reply)) (step : Act × Reply) → AreInTime s handles (askings links) steps → steps ≡ before ++ step ∷ after → is_request step ≡ true
      → (front rest : List Asking) (one next : Asking) → askings links ≡ front ++ one ∷ next ∷ rest → requests before ≡ all (front ++ one ∷ []) → IsDone s one before × HasCause s next before
  timely_at steps before after step T e t front rest one next l m =
      T (length front) one next before after step
      (ap (λ (ys : List Asking). slice_get ys (length front)) l ∙ cut_at front (next ∷ rest) one)
      (ap (λ (ys : List Asking). slice_get ys (length front + 1)) l ∙ cut_next front rest one next)
      e t (m ∙ ap all (sym (ap (λ (ys : List Asking). take (length front + 1) ys) l ∙ cut_take front (next ∷ rest) one)))

  -- ---- what is no request

  pub stays : (before after : List (Act × Reply)) (k : Cursor) → requests after ≡ requests before → IsPlace before k → IsPlace after k
  stays before after k e P = elim P [
    | inl F ↦ inl (e ∙ F.0, F.1)
    | inr Q ↦ elim Q [
      | inl S ↦ inr (inl (S.0, S.1, sent_still S.0 S.1 S.2))
      | inr C ↦ inr (inr (C.0, C.1, C.2, C.3, change_still C.0 C.1 C.2 C.3 C.4))
    ]
  ]
    where
      sent_still : (phase n : ℕ) → IsSentTo phase n before k → IsSentTo phase n after k
      sent_still phase n S = record {
        low = S.low;
        high = S.high;
        some = S.some;
        within = S.within;
        phase_is = S.phase_is;
        sent_is = S.sent_is;
        none = S.none;
        early = S.early;
        made = e ∙ S.made;
      }

      change_still : (done todo : List ℕ) (l n : ℕ) → IsInChange done todo l n before k → IsInChange done todo l n after k
      change_still done todo l n C = record {
        links_are = C.links_are;
        some = C.some;
        few = C.few;
        phase_is = C.phase_is;
        sent_is = C.sent_is;
        its = C.its;
        made_now = C.made_now;
        made_done = C.made_done;
        made_none = C.made_none;
        made = e ∙ C.made;
      }

  -- ---- all is requested

  module _ (some : 1 ≤ length handles) where
    back_left : (list : List Asking) → all (list ++ back) ≡ [] → ⊥
    back_left list e =
        let z = ap length (sym (all_both list back) ∙ e) in
        let a = length-append (all list) (all back) in
        let b = length-append (acts_of s handles BackToIdle) (acts_of s handles ToLoaded ++ []) in
        let c = length-map handles (sending Idle) in
        absurd (omega (arith, z, a, b, c, some))

    sent_left : (phase n : ℕ) (steps : List (Act × Reply)) (k : Cursor) → IsSentTo phase n steps k → all (rest_of phase) ≡ [] → k.phase ≡ 4
    sent_left zero n steps k P e = let l = P.low in absurd (omega (arith, l))
    sent_left (suc zero) n steps k P e = absurd (back_left (ToExecuting ∷ changes links) e)
    sent_left (suc (suc zero)) n steps k P e = absurd (back_left (changes links) e)
    sent_left (suc (suc (suc zero))) n steps k P e =
        let z = ap length (sym (append-nil (acts_of s handles ToLoaded)) ∙ e) in
        let c = length-map handles (sending Loaded) in
        absurd (omega (arith, z, c, some))
    sent_left (suc (suc (suc (suc zero)))) n steps k P e = P.phase_is
    sent_left (suc (suc (suc (suc (suc i))))) n steps k P e = let h = P.high in absurd (omega (arith, h))

    pub all_made : (steps : List (Act × Reply)) (k : Cursor) → IsPlace steps k → requests steps ++ [] ≡ all (askings links) → k.phase ≡ 4
    all_made steps k P e = elim P [
      | inl F ↦ absurd (back_left (ToIdle ∷ ToExecuting ∷ changes links) (sym e ∙ ap (λ (ys : List (Act × Reply)). ys ++ []) F.0))
      | inr Q ↦ elim Q [
        | inl S ↦
            let P2 = S.2 in
            sent_left S.0 S.1 steps k P2
            (none_behind S.1 (all (asking_of S.0 ∷ [])) (all (rest_of S.0)) (ahead (front_of S.0) (asking_of S.0 ∷ []) (rest_of S.0) S.1 steps [] (list_by S.0 P2.low P2.high) P2.made e))
        | inr C ↦
            let P2 = C.4 in
            absurd (back_left (changes C.1)
            (none_behind C.3 (all (change_of C.2)) (all (rest_at C.1)) (ahead (front_at C.0) (change_of C.2) (rest_at C.1) C.3 steps [] (list_at C.0 C.1 C.2 P2.links_are) P2.made e)))
      ]
    ]
