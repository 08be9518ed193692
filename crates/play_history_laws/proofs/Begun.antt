-- What a cursor has asked: the askings that were begun, and what is left of the last.
use Rattle.std.proofs.Common.{◌≡◌, ◌≢◌, ◌⊎◌, inl, inr, ℕ, zero, suc, ◌<◌, ◌≤◌, true, false, nat_eq, List, [], ◌∷◌, ◌++◌, drop, length, Some, None, refl, sym, ◌∙◌, ap, subst, arith}
use Rattle.std.specs.Prelude.{cond, flat_map}
use Rattle.std.proofs.lemmas.Bool.{cases_eq}
use Rattle.omx_types.specs.declared.handle.Handle.{Handle}
use Rattle.il_machine.specs.Acts.{Act, Reply}
use Rattle.play_build_laws.specs.Assembly.{Assembly}
use Rattle.play_forms.specs.Plans.{PlanValue}
use Rattle.play_world_laws.specs.PlayWorlds.{PlayCast}
use Rattle.play_plan_laws.specs.Assemblies.{PlayFiles, play_cast_of}
use Rattle.play_result_laws.specs.Asked.{Asking, BackToIdle, Disabling, Enabling, Retuning, ToExecuting, ToIdle, ToLoaded, acts_of, change_of, tuned}
use Rattle.play_history_laws.specs.Order.{Cursor, nothing_asked}
use Rattle.play_history_laws.proofs.Keeping.{at_one}
use Rattle.play_history_laws.specs.Askings.{asking_of}
use Rattle.play_history_laws.specs.Requests.{is_request}
use Rattle.play_result_laws.proofs.ListFronts.{times, times_cut}
use Rattle.play_history_laws.proofs.InTime.{IsRequesting, requests_rest}

-- of the links whose changes were begun
abbrev pub changes : List ℕ → List Asking
changes links = flat_map change_of links

-- the askings that were begun, by how many StateSets were
abbrev pub begun_by : ℕ → List ℕ → List Asking
begun_by zero done = []
begun_by (suc zero) done = ToIdle ∷ []
begun_by (suc (suc zero)) done = ToIdle ∷ ToExecuting ∷ []
begun_by (suc (suc (suc zero))) done = ToIdle ∷ ToExecuting ∷ (changes done ++ BackToIdle ∷ [])
begun_by _ done = ToIdle ∷ ToExecuting ∷ (changes done ++ BackToIdle ∷ ToLoaded ∷ [])

-- of a change, by how many of its acts were made
abbrev pub begun_of : ℕ → ℕ → List Asking
begun_of l zero = []
begun_of l (suc zero) = Disabling l ∷ []
begun_of l (suc (suc zero)) = Disabling l ∷ []
begun_of l (suc (suc (suc zero))) = Disabling l ∷ Retuning l ∷ []
begun_of l (suc (suc (suc (suc zero)))) = Disabling l ∷ Retuning l ∷ []
begun_of l (suc (suc (suc (suc (suc zero))))) = Disabling l ∷ Retuning l ∷ []
begun_of l (suc (suc (suc (suc (suc (suc zero)))))) = Disabling l ∷ Retuning l ∷ []
begun_of l _ = Disabling l ∷ Retuning l ∷ Enabling l ∷ []

module _ (plan : PlanValue) (files : PlayFiles) (handles : List Handle) where
  abbrev x : PlayCast
  x = play_cast_of plan

  abbrev s : Assembly
  s = tuned plan files

  abbrev acts_at : Asking → List (Act × Reply)
  acts_at one = acts_of s handles one

  abbrev pub left_of : ℕ → ℕ → List (Act × Reply)
  left_of l zero = []
  left_of l (suc zero) = drop 1 (acts_at (Disabling l))
  left_of l (suc (suc zero)) = []
  left_of l (suc (suc (suc zero))) = drop 1 (acts_at (Retuning l))
  left_of l (suc (suc (suc (suc zero)))) = drop 2 (acts_at (Retuning l))
  left_of l (suc (suc (suc (suc (suc zero))))) = drop 3 (acts_at (Retuning l))
  left_of l (suc (suc (suc (suc (suc (suc zero)))))) = []
  left_of l (suc (suc (suc (suc (suc (suc (suc zero))))))) = drop 1 (acts_at (Enabling l))
  left_of l _ = []

  abbrev pub front_at : List ℕ → List Asking
  front_at done = ToIdle ∷ ToExecuting ∷ changes done

  -- links of late sources, each once; no act was made of others
  pub record AreBegun (links : List ℕ) (k : Cursor) : Type 0 where
    pub once : (m : ℕ) → times m links ≤ 1
    pub late : (m : ℕ) → 1 ≤ times m links → (m < length plan.joints) × (((x.cast).layout).is_late m ≡ true)
    pub none : (m : ℕ) → times m links ≡ 0 → k.made m ≡ 0
    pub some : (m : ℕ) → 1 ≤ times m links → 1 ≤ k.made m

  pub record IsAskedTo (phase : ℕ) (done : List ℕ) (steps : List (Act × Reply)) (k : Cursor) : Type 0 where
    pub low : 1 ≤ phase
    pub high : phase ≤ 4
    pub some : 1 ≤ k.sent
    pub within : k.sent ≤ length handles
    pub phase_is : k.phase ≡ phase
    pub none : k.changing ≡ None
    pub early : phase ≤ 2 → done ≡ []
    pub links : AreBegun done k
    pub full : 3 ≤ phase → (m : ℕ) → m < length plan.joints → ((x.cast).layout).is_late m ≡ true → 1 ≤ times m done
    pub asks : IsRequesting s handles (begun_by phase done) (drop k.sent (acts_at (asking_of phase))) steps

  pub record IsAskedIn (done : List ℕ) (l n : ℕ) (steps : List (Act × Reply)) (k : Cursor) : Type 0 where
    pub some : 1 ≤ n
    pub few : n ≤ 8
    pub phase_is : k.phase ≡ 2
    pub sent_is : length plan.parts ≤ k.sent
    pub its : k.changing ≡ Some l
    pub made_now : k.made l ≡ n
    pub links : AreBegun (done ++ l ∷ []) k
    pub asks : IsRequesting s handles (front_at done ++ begun_of l n) (left_of l n) steps

  abbrev pub HasAsked : List (Act × Reply) → Cursor → Type 0
  HasAsked steps k =
      (IsRequesting s handles [] [] steps × (k ≡ nothing_asked x.cast))
      ⊎ (((phase : ℕ) × (done : List ℕ) × IsAskedTo phase done steps k)
      ⊎ ((done : List ℕ) × (l : ℕ) × (n : ℕ) × IsAskedIn done l n steps k))

  -- one link more
  pub begun_more : (links : List ℕ) (k j : Cursor) (l : ℕ) → AreBegun links k → l < length plan.joints → ((x.cast).layout).is_late l ≡ true → times l links ≡ 0 → ((m : ℕ) → m ≢ l → j.made m ≡ k.made m) → 1 ≤ j.made l → AreBegun (links ++ l ∷ []) j
  begun_more links k j l B b t z same now = record {
    once = λ m. elim (cases_eq m l) [
      | inl e ↦ let c = times_cut m links [] l in let a = B.once m in let y = ap (λ (i : ℕ). times i links) e in let o = at_most m in omega (arith, c, y, z, o)
      | inr n ↦ let c = times_cut m links [] l in let a = B.once m in let o = not_it m n in omega (arith, c, a, o)
    ];
    late = λ m c. elim (cases_eq m l) [
      | inl e ↦ subst (λ (i : ℕ). (i < length plan.joints) × (((x.cast).layout).is_late i ≡ true)) (sym e) (b, t)
      | inr n ↦ let d = times_cut m links [] l in let o = not_it m n in B.late m (omega (arith, c, d, o))
    ];
    none = λ m c. elim (cases_eq m l) [
      | inl e ↦ let d = times_cut m links [] l in let o = it m e in absurd (omega (arith, c, d, o))
      | inr n ↦ let d = times_cut m links [] l in same m n ∙ B.none m (omega (arith, c, d))
    ];
    some = λ m c. elim (cases_eq m l) [
      | inl e ↦ subst (λ (i : ℕ). 1 ≤ j.made i) (sym e) now
      | inr n ↦ let d = times_cut m links [] l in let o = not_it m n in let g = B.some m (omega (arith, c, d, o)) in let h = same m n in omega (arith, g, h)
    ];
  }
    where
      it : (m : ℕ) → m ≡ l → ◌≡◌ {A = ℕ} (cond (nat_eq l m) 1 0) 1
      it m e = at_one (λ (a : ℕ). a ≡ 1) l m 1 0 (λ _. refl) (λ n. absurd (n (sym e)))

      not_it : (m : ℕ) → m ≢ l → ◌≡◌ {A = ℕ} (cond (nat_eq l m) 1 0) 0
      not_it m n = at_one (λ (a : ℕ). a ≡ 0) l m 1 0 (λ e. absurd (n (sym e))) (λ _. refl)

      at_most : (m : ℕ) → ◌≤◌ (cond (nat_eq l m) 1 0) 1
      at_most m = at_one (λ (a : ℕ). a ≤ 1) l m 1 0 (λ _. omega arith) (λ _. omega arith)

  -- one act more of a link that is there
  pub begun_still : (links : List ℕ) (k j : Cursor) (l : ℕ) → AreBegun links k → 1 ≤ times l links → ((m : ℕ) → m ≢ l → j.made m ≡ k.made m) → 1 ≤ j.made l → AreBegun links j
  begun_still links k j l B there same now = record {
    once = B.once;
    late = B.late;
    none = λ m c. elim (cases_eq m l) [
      | inl e ↦ let y = ap (λ (i : ℕ). times i links) e in absurd (omega (arith, c, y, there))
      | inr n ↦ same m n ∙ B.none m c
    ];
    some = λ m c. elim (cases_eq m l) [
      | inl e ↦ subst (λ (i : ℕ). 1 ≤ j.made i) (sym e) now
      | inr n ↦ let g = B.some m c in let h = same m n in omega (arith, g, h)
    ];
  }

module _ (plan : PlanValue) (files : PlayFiles) (handles : List Handle) (before : List (Act × Reply)) (step : Act × Reply) (k : Cursor) where
  -- what is no request changes nothing
  pub still_asked : is_request step ≡ false → HasAsked plan files handles before k → HasAsked plan files handles (before ++ step ∷ []) k
  still_asked t H = elim H [
    | inl F ↦ inl (requests_rest (tuned plan files) handles [] [] before step t F.0, F.1)
    | inr Q ↦ elim Q [
      | inl S ↦ inr (inl (S.0, S.1, sent_still S.0 S.1 S.2))
      | inr C ↦ inr (inr (C.0, C.1, C.2, change_still C.0 C.1 C.2 C.3))
    ]
  ]
    where
      sent_still : (phase : ℕ) (done : List ℕ) → IsAskedTo plan files handles phase done before k → IsAskedTo plan files handles phase done (before ++ step ∷ []) k
      sent_still phase done P = record {
        low = P.low;
        high = P.high;
        some = P.some;
        within = P.within;
        phase_is = P.phase_is;
        none = P.none;
        early = P.early;
        links = P.links;
        full = P.full;
        asks = requests_rest (tuned plan files) handles (begun_by phase done) (drop k.sent (acts_of (tuned plan files) handles (asking_of phase))) before step t P.asks;
      }

      change_still : (done : List ℕ) (l n : ℕ) → IsAskedIn plan files handles done l n before k → IsAskedIn plan files handles done l n (before ++ step ∷ []) k
      change_still done l n P = record {
        some = P.some;
        few = P.few;
        phase_is = P.phase_is;
        sent_is = P.sent_is;
        its = P.its;
        made_now = P.made_now;
        links = P.links;
        asks = requests_rest (tuned plan files) handles (front_at plan files handles done ++ begun_of l n) (left_of plan files handles l n) before step t P.asks;
      }
