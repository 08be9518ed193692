-- The graph of a play is taken apart, act by act.
use Rattle.std.proofs.Common.{◌≡◌, ◌⊎◌, inl, inr, ℕ, zero, suc, ◌+◌, ◌<◌, ◌≤◌, true, false, List, [], ◌∷◌, length, set, slice_get, Option, Some, None, option_map, MatchOption, Result, Ok, Err, refl, sym, ◌∙◌, ap, subst, arith}
use Rattle.omx_types.specs.declared.handle.Handle.{Handle}
use Rattle.omx_types.specs.declared.error.OmxError.{OmxError}
use Rattle.part_api.specs.declared.attached.Attached.{Attached}
use Rattle.il_machine.specs.declared.answer.Progress.{Progress}
use Rattle.il_machine.specs.declared.header.Owner.TheVariants as owners
use Rattle.il_machine.specs.Components.{FreeHandle}
use Rattle.il_machine.specs.Headers.{seen}
use Rattle.il_machine.specs.Tunnels.{DropTunnel}
use Rattle.il_machine.specs.Whole.{Stands, Steps, StepsWhere}
use Rattle.il_machine.specs.World.{Component, HeaderRecord, World}
use Rattle.machine_laws.proofs.Every.{from_places, set_else, set_there}
use Rattle.audio_parts.specs.AnyParts.{attached_of}
use Rattle.audio_parts.specs.declared.part_file.PartFile.{PartFile}
use Rattle.graph_core.specs.Ending.{IsAllIn}
use Rattle.il_graph.specs.Shown.{Shown, file_of, look_of}
use Rattle.play_build_laws.proofs.Places.{get_there}
use Rattle.play_build_laws.specs.Dismantling.{AreFirst, AreLinks, IsSameButPorts, IsUnjoined}
use Rattle.play_build_laws.proofs.Freeing.{frees}
use Rattle.play_build_laws.proofs.Parting.{all_parted, parts}
use Rattle.play_forms.specs.declared.joint.Joint.{Joint}
use Rattle.play_forms.specs.Plans.{PlanValue}
use Rattle.play_plan_laws.specs.Casting.{joint_of}
use Rattle.play_graph.specs.Graphs.{IsHandleAt, kept_of}
use Rattle.play_plan_laws.specs.Endings.{HasEnded, HasParted, ends_of}
use Rattle.play_graph.specs.Ending.{AreBack, IsBackAt, StandsFor}
use Rattle.play_graph.specs.Making.{IsMade}
use Rattle.play_graph.proofs.Naming.{named_at}

-- ---- what only the ports differ in

pub same_ports : (w : World) → IsSameButPorts w w
same_ports w = record { many = refl; each = λ i b e. (b, e, refl) }

pub more_ports : (w v u : World) → IsSameButPorts w v → IsSameButPorts v u → IsSameButPorts w u
more_ports w v u A B = record {
  many = B.many ∙ A.many;
  each = λ i c e.
      let b = B.each i c e in
      let a = A.each i b.0 b.1 in
      (a.0, a.1, b.2 ∙ ap (λ (y : Component). record y { ports = c.ports }) a.2);
}

below_or : (i j : ℕ) → i ≤ j → (i < j) ⊎ (j ≡ i)
below_or zero zero l = inr refl
below_or zero (suc j) l = inl (omega arith)
below_or (suc i) zero l = absurd (omega (arith, l))
below_or (suc i) (suc j) l = elim (below_or i j (omega (arith, l))) [ inl h ↦ inl (omega (arith, h)) | inr h ↦ inr (ap suc h) ]

module _ {S K : Type 0} where
  pub stands_then : (A B : World → Type 0) (C : World → World → Type 0) (g k : Shown S K Progress) → StandsFor A g → StepsWhere (kept_of g) (kept_of k) A (λ w v. B v × C w v) → StandsFor B k
  stands_then A B C g k (w, s, a) steps = let v = steps w s a in (v.0, v.1, v.2.0)

  -- ---- links

  module _ (plan : PlanValue) (l : ℕ) (b : l < length plan.joints) where
    pub giver_made : (g : Shown S K Progress) → StandsFor (HasParted plan l) g → IsMade (joint_of plan l).giver g
    giver_made g (w, s, P) = (w, s, P.inside false l b)

    pub taker_made : (g : Shown S K Progress) → StandsFor (HasParted plan l) g → IsMade (joint_of plan l).taker g
    taker_made g (w, s, P) = (w, s, P.inside true l b)

    pub part_steps : (g k : Shown S K Progress) (h j : Handle) (r : Result (Unit {0}) OmxError) → AreLinks (ends_of plan) (length plan.joints) → IsHandleAt g (joint_of plan l).giver h → IsHandleAt g (joint_of plan l).taker j
        → Steps (kept_of g) (kept_of k) (λ w v. DropTunnel w (record { handle = h; index = (joint_of plan l).output }) (record { handle = j; index = (joint_of plan l).input }) r v)
        → StepsWhere (kept_of g) (kept_of k) (HasParted plan l) (λ w v. HasParted plan (l + 1) v × IsSameButPorts w v)
    part_steps g k h j r L H J steps = λ w s P.
        let v = steps w s in
        let D = parts (ends_of plan) (length plan.joints) l w v.0 h j r L P b (named_at w (joint_of plan l).giver h P.quiet.sound (H w s)) (named_at w (joint_of plan l).taker j P.quiet.sound (J w s)) v.2 in
        (v.0, v.1, (D.1, D.2))

    module _ (j : Joint) (J : j ≡ joint_of plan l) where
      pub giver_by : (g : Shown S K Progress) → StandsFor (HasParted plan l) g → IsMade j.giver g
      giver_by g s = subst (λ (z : Joint). IsMade z.giver g) (sym J) (giver_made g s)

      pub taker_by : (g : Shown S K Progress) → StandsFor (HasParted plan l) g → IsMade j.taker g
      taker_by g s = subst (λ (z : Joint). IsMade z.taker g) (sym J) (taker_made g s)

      pub part_by : (g k : Shown S K Progress) (h t : Handle) (r : Result (Unit {0}) OmxError) → AreLinks (ends_of plan) (length plan.joints) → IsHandleAt g j.giver h → IsHandleAt g j.taker t
          → Steps (kept_of g) (kept_of k) (λ w v. DropTunnel w (record { handle = h; index = j.output }) (record { handle = t; index = j.input }) r v)
          → StepsWhere (kept_of g) (kept_of k) (HasParted plan l) (λ w v. HasParted plan (l + 1) v × IsSameButPorts w v)
      part_by g k h t r L = subst (λ (z : Joint). IsHandleAt g z.giver h → IsHandleAt g z.taker t → Steps (kept_of g) (kept_of k) (λ w v. DropTunnel w (record { handle = h; index = z.output }) (record { handle = t; index = z.input }) r v)
          → StepsWhere (kept_of g) (kept_of k) (HasParted plan l) (λ w v. HasParted plan (l + 1) v × IsSameButPorts w v)) (sym J) (part_steps g k h t r L)

  -- no link is parted yet
  pub none_parted : (plan : PlanValue) (g : Shown S K Progress) → StepsWhere (kept_of g) (kept_of g) (HasParted plan 0) (λ w v. HasParted plan 0 v × IsSameButPorts w v)
  none_parted plan g = λ w s P. (w, s, (P, same_ports w))

  pub parted_next : (plan : PlanValue) (l : ℕ) (g k m : Shown S K Progress) → StepsWhere (kept_of g) (kept_of k) (HasParted plan 0) (λ w v. HasParted plan l v × IsSameButPorts w v)
      → StepsWhere (kept_of k) (kept_of m) (HasParted plan l) (λ w v. HasParted plan (l + 1) v × IsSameButPorts w v)
      → StepsWhere (kept_of g) (kept_of m) (HasParted plan 0) (λ w v. HasParted plan (l + 1) v × IsSameButPorts w v)
  parted_next plan l g k m one other = λ w s P. let u = one w s P in let v = other u.0 u.1 u.2.0 in (v.0, v.1, (v.2.0, more_ports w u.0 v.0 u.2.1 v.2.1))

  -- ---- components

  pub last_made : (place : ℕ) (g : Shown S K Progress) → StandsFor (IsUnjoined (place + 1)) g → IsMade place g
  last_made place g (w, s, U) = let m = U.many in (w, s, omega arith)

  module _ (place : ℕ) (g k : Shown S K Progress) (h : Handle) (H : IsHandleAt g place h) where
    freed_in : (r : Result (Option Attached) OmxError) → Steps (kept_of g) (kept_of k) (λ w v. FreeHandle w h r v) → (w : World) → Stands (kept_of g) w → IsUnjoined (place + 1) w
        → (v : World) × Stands (kept_of k) v × (a : Component) × (slice_get w.components place ≡ Some a) × (r ≡ Ok a.file) × IsUnjoined place v × AreFirst place w v
    freed_in r steps w s U =
        let v = steps w s in
        let m = U.many in
        let a = get_there w.components place (omega arith) in
        let F = frees place w v.0 h a.0 r U (named_at w place h U.quiet.sound (H w s)) a.1 v.2 in
        (v.0, v.1, a.0, a.1, F.0, F.1, F.2)

    -- its number is its place
    pub named_number : StandsFor (IsUnjoined (place + 1)) g → h.generation ≡ place
    named_number (w, s, U) =
        let m = U.many in
        let a = get_there w.components place (omega arith) in
        let e : Some (a.0).handle ≡ Some h = sym (ap (option_map (λ (c : Component). c.handle)) a.1) ∙ H w s in
        let same : (a.0).handle ≡ h = cc in
        ap (λ (k : Handle). k.generation) (sym same) ∙ U.quiet.numbered place a.0 a.1

    pub never_refused : (e : OmxError) → StandsFor (IsUnjoined (place + 1)) g → Steps (kept_of g) (kept_of k) (λ w v. FreeHandle w h (Err e) v) → ⊥
    never_refused e (w, s, U) steps = let F = (freed_in (Err e) steps w s U).4 in absurd cc

    pub free_steps : (file : Option (PartFile S K)) → Steps (kept_of g) (kept_of k) (λ w v. FreeHandle w h (Ok (option_map attached_of file)) v)
        → StepsWhere (kept_of g) (kept_of k) (IsUnjoined (place + 1)) (λ w v. IsUnjoined place v × AreFirst place w v × IsBackAt w place file)
    free_steps file steps = λ w s U.
        let F = freed_in (Ok (option_map attached_of file)) steps w s U in
        let is = F.4 in
        (F.0, F.1, (F.5, F.6, record { component = F.2; there = F.3; its = cc }))

  -- so many are left, and the files of the others are back
  pub record IsFreed (places left : ℕ) (w v : World) (entries : List (Option (PartFile S K))) : Type 0 where
    pub left_in : IsUnjoined left v
    pub first : AreFirst left w v
    pub back : (place : ℕ) → left ≤ place → place < places → (file : Option (PartFile S K)) × (slice_get entries place ≡ Some file) × IsBackAt w place file

  pub none_freed : (places : ℕ) (g : Shown S K Progress) (entries : List (Option (PartFile S K))) → StepsWhere (kept_of g) (kept_of g) (IsUnjoined places) (λ w v. IsFreed places places w v entries)
  none_freed places g entries = λ w s U. (w, s, record { left_in = U; first = λ i b. refl; back = λ place l b. absurd (omega (arith, l, b)) })

  earlier : (place : ℕ) (w v : World) (file : Option (PartFile S K)) → slice_get v.components place ≡ slice_get w.components place → IsBackAt v place file → IsBackAt w place file
  earlier place w v file e B = record { component = B.component; there = sym e ∙ B.there; its = B.its }

  pub freed_next : (places place : ℕ) (g k m : Shown S K Progress) (entries : List (Option (PartFile S K))) (file : Option (PartFile S K)) → slice_get entries place ≡ Some None
      → StepsWhere (kept_of g) (kept_of k) (IsUnjoined places) (λ w v. IsFreed places (place + 1) w v entries)
      → StepsWhere (kept_of k) (kept_of m) (IsUnjoined (place + 1)) (λ w v. IsUnjoined place v × AreFirst place w v × IsBackAt w place file)
      → StepsWhere (kept_of g) (kept_of m) (IsUnjoined places) (λ w v. IsFreed places place w v (set entries place file))
  freed_next places place g k m entries file free one other = λ w s U.
      let u = one w s U in
      let F = u.2 in
      let v = other u.0 u.1 F.left_in in (
        v.0,
        v.1,
        record {
          left_in = v.2.0;
          first = λ i b. v.2.1 i b ∙ F.first i (omega (arith, b));
          back = λ n l b. elim (below_or place n l) [
            | inl later ↦
                let B = F.back n (omega (arith, later)) b in
                (B.0, set_else entries place n file (λ q. omega (arith, q, later)) ∙ B.1, B.2)
            | inr same ↦ (
              file,
              subst (λ (j : ℕ). slice_get (set entries place file) j ≡ Some file) (sym same) (set_there entries place None file free),
              subst (λ (j : ℕ). IsBackAt w j file) (sym same) (earlier place w u.0 file (F.first place (omega arith)) v.2.2),
            )
          ];
        },
      )

  pub freed_down : (places left place : ℕ) → left ≡ place + 1 → (g k m : Shown S K Progress) (entries news : List (Option (PartFile S K))) (file : Option (PartFile S K)) → news ≡ set entries place file → slice_get entries place ≡ Some None
      → StepsWhere (kept_of g) (kept_of k) (IsUnjoined places) (λ w v. IsFreed places left w v entries)
      → StepsWhere (kept_of k) (kept_of m) (IsUnjoined (place + 1)) (λ w v. IsUnjoined place v × AreFirst place w v × IsBackAt w place file)
      → StepsWhere (kept_of g) (kept_of m) (IsUnjoined places) (λ w v. IsFreed places place w v news)
  freed_down places left place next g k m entries news file put free one other =
      subst (λ (es : List (Option (PartFile S K))). StepsWhere (kept_of g) (kept_of m) (IsUnjoined places) (λ w v. IsFreed places place w v es)) (sym put)
      (freed_next places place g k m entries file free (subst (λ (n : ℕ). StepsWhere (kept_of g) (kept_of k) (IsUnjoined places) (λ w v. IsFreed places n w v entries)) next one) other)

  -- the file objects of the last places are back
  pub came_next : (g : Shown S K Progress) (place k : ℕ) {left : ℕ} → left ≡ place + 1 → (entries news : List (Option (PartFile S K))) (file : Option (PartFile S K)) → news ≡ set entries place file → slice_get entries place ≡ Some None
      → file ≡ file_of place g → (left ≤ k → slice_get entries k ≡ Some (file_of k g)) → place ≤ k → slice_get news k ≡ Some (file_of k g)
  came_next g place k next entries news file put free is came l = ap (λ (es : List (Option (PartFile S K))). slice_get es k) put ∙ elim (below_or place k l) [
    | inl later ↦ set_else entries place k file (λ q. omega (arith, q, later)) ∙ came (omega (arith, next, later))
    | inr same ↦ ap (slice_get (set entries place file)) same ∙ (set_there entries place None file free ∙ (ap (λ (o : Option (PartFile S K)). Some o) is ∙ ap (λ (n : ℕ). Some (file_of n g)) (sym same)))
  ]

  pub still_left : (places left : ℕ) (g k : Shown S K Progress) (entries : List (Option (PartFile S K))) → StandsFor (IsUnjoined places) g → StepsWhere (kept_of g) (kept_of k) (IsUnjoined places) (λ w v. IsFreed places left w v entries) → StandsFor (IsUnjoined left) k
  still_left places left g k entries (w, s, U) steps = let v = steps w s U in (v.0, v.1, v.2.left_in)

  pub all_freed : (places : ℕ) (g k : Shown S K Progress) (entries : List (Option (PartFile S K))) → StepsWhere (kept_of g) (kept_of k) (IsUnjoined places) (λ w v. IsFreed places 0 w v entries)
      → StepsWhere (kept_of g) (kept_of k) (IsUnjoined places) (λ w v. IsUnjoined 0 v × AreBack w entries)
  all_freed places g k entries steps = λ w s U.
      let v = steps w s U in
      let m = U.many in
      (v.0, v.1, (v.2.left_in, λ place b. v.2.back place (omega arith) (omega (arith, b))))

  -- ---- the end

  pub is_all_in : (g : Shown S K Progress) → StandsFor (IsUnjoined 0) g → IsAllIn (look_of g)
  is_all_in g (w, s, U) =
      let none : w.components ≡ [] = no_more w.components U.many in
      subst IsAllIn s.looks (record {
        headers = λ number W. subst (λ (hs : List HeaderRecord). MatchOption ((seen hs).header number) ⊥ (λ x. x.owner ≡ owners.Client)) U.quiet.headers W;
        clients = from_places (λ (a : Component). a.client_out ≡ false) w.components (λ i a e. let z = rw none at e in absurd cc);
        works = from_places (λ (a : Component). a.work ≡ None) w.components (λ i a e. let z = rw none at e in absurd cc);
        files = from_places (λ (a : Component). a.file ≡ None) w.components (λ i a e. let z = rw none at e in absurd cc);
      })
    where
      no_more : (cs : List Component) → length cs ≡ 0 → cs ≡ []
      no_more [] e = refl
      no_more (a ∷ cs) e = absurd (omega (arith, e))

  pub unjoined_then : (plan : PlanValue) (g k : Shown S K Progress) → StandsFor (HasEnded plan) g → StepsWhere (kept_of g) (kept_of k) (HasParted plan 0) (λ w v. HasParted plan (length plan.joints) v × IsSameButPorts w v) → StandsFor (IsUnjoined (length plan.parts)) k
  unjoined_then plan g k (w, s, E) steps =
      let v = steps w s E.joined in
      let many : length (v.0).components ≡ length plan.parts = v.2.1.many ∙ E.many in
      (v.0, v.1, subst (λ (n : ℕ). IsUnjoined n v.0) many (all_parted (ends_of plan) (length plan.joints) v.0 v.2.0))

  pub back_at_end : (plan : PlanValue) (g k m : Shown S K Progress) (entries : List (Option (PartFile S K))) → StepsWhere (kept_of g) (kept_of k) (HasParted plan 0) (λ w v. HasParted plan (length plan.joints) v × IsSameButPorts w v)
      → StepsWhere (kept_of k) (kept_of m) (IsUnjoined (length plan.parts)) (λ w v. IsUnjoined 0 v × AreBack w entries) → (w : World) → Stands (kept_of g) w → HasEnded plan w → AreBack w entries
  back_at_end plan g k m entries one other w s E =
      let u = one w s E.joined in
      let same = u.2.1 in
      let many : length (u.0).components ≡ length plan.parts = same.many ∙ E.many in
      let v = other u.0 u.1 (subst (λ (n : ℕ). IsUnjoined n u.0) many (all_parted (ends_of plan) (length plan.joints) u.0 u.2.0)) in
      λ place b.
      let B = v.2.1 place (subst (λ (n : ℕ). place < n) (sym same.many) b) in
      let a = same.each place (B.2).component (B.2).there in
      (B.0, B.1, record { component = a.0; there = a.1; its = (B.2).its ∙ ap (λ (y : Component). y.file) a.2 })
