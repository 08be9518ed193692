-- Once a play is over, all that it asks for was asked.
use Rattle.std.proofs.Common.{◌≡◌, ◌⊎◌, inl, inr, ℕ, zero, suc, ◌<◌, ◌≤◌, Bool, true, false, ◌&&◌, nat_lt, ◌==◌, List, [], ◌∷◌, ◌++◌, drop, slice_get, Option, Some, None, refl, sym, ◌∙◌, ap, subst, append-nil, eq-eqb, lt-ltb, ltb-true, arith}
use Rattle.std.specs.Prelude.{cond, count_by, flat_map}
use Rattle.std.proofs.lemmas.List.Sums.{sum_by_push}
use Rattle.il_machine.specs.Acts.{Act, Reply}
use Rattle.part_forms.specs.Kinds.{is_late}
use Rattle.machine_laws.proofs.Accepting.{both_of}
use Rattle.machine_laws.proofs.Finding.{either}
use Rattle.conductor.specs.declared.phase.LateLink.{LateLink}
use Rattle.script_lang.specs.declared.play_line.PartLine.{PartLine}
use Rattle.play_build_laws.specs.Assembly.{Assembly, kind_at}
use Rattle.play_forms.specs.Parts.{passes_at}
use Rattle.play_plan_laws.specs.Casting.{joint_of}
use Rattle.play_model.specs.Play.{Play}
use Rattle.play_model.specs.Reached.{IsOver}
use Rattle.play_world_laws.specs.Cast.{links_of}
use Rattle.play_turn_laws.specs.Conducting.{IsCarriedOut, IsLateOf}
use Rattle.play_plan_laws.specs.Assemblies.{kind_in}
use Rattle.play_log.specs.Entries.{steps_of}
use Rattle.play_result_laws.specs.Asked.{AreLateLinks, AreTimely, Asking, BackToIdle, IsConducted, ToExecuting, ToIdle, ToLoaded, acts_of, asked, askings, change_of, tuned}
use Rattle.play_run.specs.Asking.{answered, handles_of}
use Rattle.play_run.specs.Playing.{AsksIn, IsPlaying, PlayingValue, cast, layout_of}

-- ---- lists

pub last_or : (links : List ℕ) → (links ≡ []) ⊎ ((front : List ℕ) × (l : ℕ) × (links ≡ front ++ l ∷ []))
last_or [] = inl refl
last_or (k ∷ ks) = elim (last_or ks) [
  | inl e ↦ inr ([], k, ap (λ (t : List ℕ). k ∷ t) e)
  | inr z ↦ inr (k ∷ z.0, z.1, ap (λ (t : List ℕ). k ∷ t) z.2)
]

pub none_behind : (xs ys : List Asking) → xs ++ ys ≡ [] → ys ≡ []
none_behind [] ys e = e
none_behind (x ∷ xs) ys e = absurd cc

pub counted : (front : List ℕ) (l : ℕ) → 1 ≤ count_by (λ (k : ℕ). k == l) (front ++ l ∷ [])
counted front l =
    let t = sum_by_push (λ (k : ℕ). cond (k == l) 1 0) front l in
    let e : ◌≡◌ {A = ℕ} (cond (l == l) 1 0) 1 = ap (λ (b : Bool). cond b 1 0) (eq-eqb l l refl) in
    omega (arith, t, e)

late_kind : (o : Option PartLine) → is_late (kind_in o) ≡ passes_at is_late o
late_kind None = refl
late_kind (Some part) = refl

-- ---- steps

-- how many acts of a change are made says how many steps of it are carried out
pub carried_once : (n m acts : ℕ) → IsCarriedOut n acts → IsCarriedOut m acts → n ≡ m
carried_once zero zero acts C D = refl
carried_once zero (suc zero) acts C D = absurd (omega arith)
carried_once zero (suc (suc zero)) acts C D = absurd (omega arith)
carried_once zero (suc (suc (suc zero))) acts C D = absurd (omega arith)
carried_once (suc zero) zero acts C D = absurd (omega arith)
carried_once (suc zero) (suc zero) acts C D = refl
carried_once (suc zero) (suc (suc zero)) acts C D = absurd (omega arith)
carried_once (suc zero) (suc (suc (suc zero))) acts C D = absurd (omega arith)
carried_once (suc (suc zero)) zero acts C D = absurd (omega arith)
carried_once (suc (suc zero)) (suc zero) acts C D = absurd (omega arith)
carried_once (suc (suc zero)) (suc (suc zero)) acts C D = refl
carried_once (suc (suc zero)) (suc (suc (suc zero))) acts C D = absurd (omega arith)
carried_once (suc (suc (suc zero))) zero acts C D = absurd (omega arith)
carried_once (suc (suc (suc zero))) (suc zero) acts C D = absurd (omega arith)
carried_once (suc (suc (suc zero))) (suc (suc zero)) acts C D = absurd (omega arith)
carried_once (suc (suc (suc zero))) (suc (suc (suc zero))) acts C D = refl
carried_once (suc (suc (suc (suc n)))) m acts C D = absurd C
carried_once n (suc (suc (suc (suc m)))) acts C D = absurd D

-- ---- all is asked

module _ {S K : Type 0} (x : PlayingValue S K) (p : Play) (Y : IsPlaying x p) (over : IsOver (layout_of x.plan) p) where
  abbrev s : Assembly
  s = tuned x.plan Y.standing.files

  abbrev steps : List (Act × Reply)
  steps = steps_of (Y.standing.recorded).history

  A : AsksIn x p Y.standing steps
  A = (Y.standing.recorded).asks

  sends : (x.conductor).sends ≡ 4
  sends = ((Y.standing.conducted).conducting).sends ∙ over.phase

  -- each late source's link was changed
  record IsThere (l : ℕ) : Type 0 where
    place : ℕ
    entry : LateLink
    there : slice_get (x.conductor).lates place ≡ Some entry
    of_link : IsLateOf (cast x.plan) l entry
    three : entry.steps ≡ 3

  is_there : (l : ℕ) → l < links_of (cast x.plan) → (layout_of x.plan).is_late l ≡ true → IsThere l
  is_there l b t =
      let r = ((Y.standing.conducted).conducting).lates.some l b t in
      let O = (r.3).of_link in
      let f = over.phase in
      let C = ((((Y.standing.conducted).play).reached).changes l b).over (omega arith) t in
      record { place = r.0; entry = r.1; there = r.2; of_link = O; three = carried_once (r.1).steps 3 (p.change l).step (Y.carried r.0 l r.1 r.2 O) C.0 }

  -- nothing of the last change is left
  no_rest : (A.are).rest ≡ []
  no_rest = elim (last_or (A.are).links) [
    | inl n ↦ none_behind A.changes (A.are).rest ((A.are).parts ∙ ap (λ (ls : List ℕ). flat_map change_of ls) n)
    | inr z ↦
        let o = (A.are).only z.1 (subst (λ (ls : List ℕ). 1 ≤ count_by (λ (k : ℕ). k == z.1) ls) (sym z.2) (counted z.0 z.1)) in
        let E = is_there z.1 o.0 o.1 in
        ((A.are).last z.0 z.1 E.place E.entry z.2 E.there E.of_link).1 ∙ ap (λ (n : ℕ). drop n (change_of z.1)) E.three
  ]

  all_changes : A.changes ≡ flat_map change_of (A.are).links
  all_changes = sym (append-nil A.changes) ∙ (ap (λ (t : List Asking). A.changes ++ t) (sym no_rest) ∙ (A.are).parts)

  is_all : answered (x.conductor).sends A.changes ≡ askings (A.are).links
  is_all = ap (λ (n : ℕ). answered n A.changes) sends ∙ ap (λ (cs : List Asking). ToIdle ∷ ToExecuting ∷ (cs ++ BackToIdle ∷ ToLoaded ∷ [])) all_changes

  kind_is : (l : ℕ) → is_late (kind_at s false l) ≡ (layout_of x.plan).is_late l
  kind_is l = late_kind (slice_get (x.plan).parts (joint_of x.plan l).giver)

  each_once : AreLateLinks s (A.are).links
  each_once l = either (nat_lt l (links_of (cast x.plan)) && (layout_of x.plan).is_late l)
      (λ t.
      let b = both_of (nat_lt l (links_of (cast x.plan))) ((layout_of x.plan).is_late l) t in
      let E = is_there l (ltb-true l (links_of (cast x.plan)) b.0) b.1 in
      let n = (A.are).begun E.place l E.entry E.there E.of_link in
      let z = E.three in
      let q = kind_is l in
      n ∙ rw (z, q, t) refl)
      (λ f. let q = kind_is l in rw (q, f) (none_counted l (count_by (λ (k : ℕ). k == l) (A.are).links) refl f))
    where
      -- a link that is none of a late source's isn't among them
      none_counted : (l n : ℕ) → count_by (λ (k : ℕ). k == l) (A.are).links ≡ n → (nat_lt l (links_of (cast x.plan)) && (layout_of x.plan).is_late l) ≡ false → count_by (λ (k : ℕ). k == l) (A.are).links ≡ 0
      none_counted l zero e f = e
      none_counted l (suc n) e f =
          let o = (A.are).only l (omega (arith, e)) in
          let b : nat_lt l (links_of (cast x.plan)) ≡ true = lt-ltb l (links_of (cast x.plan)) o.0 in
          let t : (layout_of x.plan).is_late l ≡ true = o.1 in
          let z : (true && true) ≡ false = rw (b, t) at f in
          absurd cc

  pub all_asked : IsConducted s (handles_of Y.standing.opening) steps
  all_asked = record {
    links = (A.are).links;
    late = each_once;
    whole = sym (append-nil (asked steps)) ∙ (ap (λ (t : List (Act × Reply)). asked steps ++ t) (sym Y.whole)
        ∙ ((A.asking).made ∙ ap (λ (list : List Asking). flat_map (acts_of s (handles_of Y.standing.opening)) list) is_all));
    timely = subst (λ (list : List Asking). AreTimely s (handles_of Y.standing.opening) list steps) is_all (A.asking).timely;
  }
