-- The works and the client objects that are held, as one of them goes out or comes back.
use Rattle.std.proofs.Common.{◌≡◌, ◌≢◌, inl, inr, ℕ, List, Option, Some, None, slice_get, slice_set, sym, ◌∙◌, ap, subst}
use Rattle.omx_types.specs.declared.handle.Handle.{Handle}
use Rattle.il_machine.specs.declared.answer.Progress.{Progress}
use Rattle.il_machine.specs.World.{World}
use Rattle.machine_laws.proofs.Every.{at_set, set_else, set_there}
use Rattle.audio_parts.specs.Shown.{ShownPart}
use Rattle.graph_core.specs.Clients.{WasTold}
use Rattle.il_flow.specs.Works.{WorkOf}
use Rattle.il_graph.specs.Shown.{Shown}
use Rattle.graph_acts.specs.Holding.{IsGone, IsGoneSo, OutClient}
use Rattle.graph_acts.specs.Moving.{MovesClients}
use Rattle.graph_acts.specs.Plain.{Sight}
use Rattle.graph_acts.specs.Working.{IsWorkIn, MovesWorks, out_of}
use Rattle.run_audit.specs.Replaying.{HoldsObjects, HoldsWorks}

-- each handle has its own number
abbrev pub AreApart : List Handle → Type 0
AreApart handles = (i j : ℕ) (h k : Handle) → slice_get handles i ≡ Some h → slice_get handles j ≡ Some k → h.generation ≡ k.generation → i ≡ j

handle_at : (handles : List Handle) (i : ℕ) (h k : Handle) → slice_get handles i ≡ Some h → slice_get handles i ≡ Some k → h ≡ k
handle_at handles i h k a b = let e : Some h ≡ Some k = sym a ∙ b in cc

-- ---- works

module _ {S K : Type 0} (handles : List Handle) (apart : AreApart handles) (works : List (Option (WorkOf (ShownPart S K)))) (w v : World) (H : HoldsWorks handles works w) where
  abbrev Work : Type 0
  Work = WorkOf (ShownPart S K)

  pub works_stay : MovesWorks {S = S} {K = K} None None w v → HoldsWorks handles works v
  works_stay M = record {
    out = λ place work at. let x = H.out place work at in (x.0, M.stay (out_of work) tt x.1);
    all = λ place h at is. elim (M.back h.generation is) [ inl b ↦ H.all place h at b.0 | inr k ↦ absurd k ];
  }

  module _ (place : ℕ) (work : Work) where
    pub work_comes : slice_get handles place ≡ Some work.component → slice_get works place ≡ Some None → MovesWorks None (Some (out_of work)) w v → HoldsWorks handles (slice_set works place (Some work)) v
    work_comes its free M = record {
      out = λ j y at. elim (at_set works place j (Some work) (Some y) at) [
        | inl e ↦
            let same : work ≡ y = let q : Some y ≡ Some work = e.1 in cc in
            subst (λ (z : Work). (slice_get handles j ≡ Some z.component) × IsWorkIn v (out_of z)) same (ap (slice_get handles) e.0 ∙ its, (M.given).now)
        | inr e ↦ let x = H.out j y e.1 in (x.0, M.stay (out_of y) tt x.1)
      ];
      all = λ j h at is. elim (M.back h.generation is) [
        | inl b ↦
            let y = H.all j h at b.0 in
            let n : j ≢ place = λ e. (let z : Some (Some y.0) ≡ Some None = sym y.1 ∙ (ap (slice_get works) e ∙ free) in cc) in
            (y.0, set_else works place j (Some work) n ∙ y.1)
        | inr k ↦
            let e : place ≡ j = apart place j work.component h its at k in
            (work, ap (slice_get (slice_set works place (Some work))) (sym e) ∙ set_there works place None (Some work) free)
      ];
    }

    pub work_goes : slice_get works place ≡ Some (Some work) → MovesWorks {S = S} {K = K} (Some work.component.generation) None w v → HoldsWorks handles (slice_set works place None) v
    work_goes held M =
        let its = (H.out place work held).0 in
        record {
          out = λ j y at. elim (at_set works place j None (Some y) at) [
            | inl e ↦ let z : Some y ≡ None = e.1 in absurd cc
            | inr e ↦
                let x = H.out j y e.1 in
                (x.0, M.stay (out_of y) (λ k. e.0 (apart j place y.component work.component x.0 its k)) x.1)
          ];
          all = λ j h at is. elim (M.back h.generation is) [
            | inl b ↦
                let y = H.all j h at b.0 in
                let n : j ≢ place = λ e. b.1 (ap (λ (k : Handle). k.generation) (handle_at handles place h work.component (ap (slice_get handles) (sym e) ∙ at) its)) in
                (y.0, set_else works place j None n ∙ y.1)
            | inr k ↦ absurd k
          ];
        }

-- ---- client objects

-- what one that stays out was told holds still
abbrev pub StaysTold : {S K C : Type 0} → Shown S K C → Shown S K C → World → World → Type 0
StaysTold old new w v = (h : Handle) (p : Progress) → IsGone old h → IsGone new h → WasTold h p w → WasTold h p v

module _ {S K C : Type 0} (see : Sight S K C) (handles : List Handle) (apart : AreApart handles) (clients : List (Option C)) (old new : Shown S K C) (w v : World) (H : HoldsObjects see handles clients old w) where
  abbrev shown : Handle → C → OutClient
  shown h client = record { handle = h; progress = see.progress client }

  pub objects_stay : StaysTold old new w v → MovesClients None None old new → HoldsObjects see handles clients new v
  objects_stay T M = record {
    out = λ place client at.
        let x = H.out place client at in
        let s = M.stay (shown x.0 client) tt x.2.0 in
        (x.0, x.1, (s, T x.0 (see.progress client) x.2.0.0 s.0 x.2.1));
    all = λ place h at is. elim (M.back h is) [ inl b ↦ H.all place h at b.0 | inr k ↦ absurd k ];
  }

  module _ (place : ℕ) (h : Handle) (its : slice_get handles place ≡ Some h) where
    -- it was told the note, before it is held
    pub object_comes : (client : C) → slice_get clients place ≡ Some None → StaysTold old new w v → WasTold h (see.progress client) v → MovesClients None (Some (shown h client)) old new → HoldsObjects see handles (slice_set clients place (Some client)) new v
    object_comes client free T told M = record {
      out = λ j y at. elim (at_set clients place j (Some client) (Some y) at) [
        | inl e ↦
            let same : client ≡ y = let q : Some y ≡ Some client = e.1 in cc in
            (h, ap (slice_get handles) e.0 ∙ its, subst (λ (z : C). IsGoneSo new (shown h z) × WasTold h (see.progress z) v) same ((M.given).now, told))
        | inr e ↦
            let x = H.out j y e.1 in
            let s = M.stay (shown x.0 y) tt x.2.0 in
            (x.0, x.1, (s, T x.0 (see.progress y) x.2.0.0 s.0 x.2.1))
      ];
      all = λ j k at is. elim (M.back k is) [
        | inl b ↦
            let y = H.all j k at b.0 in
            let n : j ≢ place = λ e. (let z : Some (Some y.0) ≡ Some None = sym y.1 ∙ (ap (slice_get clients) e ∙ free) in cc) in
            (y.0, set_else clients place j (Some client) n ∙ y.1)
        | inr e ↦
            let same : place ≡ j = apart place j h k its at (ap (λ (z : Handle). z.generation) e) in
            (client, ap (slice_get (slice_set clients place (Some client))) (sym same) ∙ set_there clients place None (Some client) free)
      ];
    }

    pub object_goes : (client : C) → slice_get clients place ≡ Some (Some client) → StaysTold old new w v → MovesClients (Some h) None old new → HoldsObjects see handles (slice_set clients place None) new v
    object_goes client held T M = record {
      out = λ j y at. elim (at_set clients place j None (Some y) at) [
        | inl e ↦ let z : Some y ≡ None = e.1 in absurd cc
        | inr e ↦
            let x = H.out j y e.1 in
            let other : x.0 ≢ h = λ q. e.0 (apart j place x.0 h x.1 its (ap (λ (z : Handle). z.generation) q)) in
            let s = M.stay (shown x.0 y) other x.2.0 in
            (x.0, x.1, (s, T x.0 (see.progress y) x.2.0.0 s.0 x.2.1))
      ];
      all = λ j k at is. elim (M.back k is) [
        | inl b ↦
            let y = H.all j k at b.0 in
            let n : j ≢ place = λ e. b.1 (handle_at handles place k h (ap (slice_get handles) (sym e) ∙ at) its) in
            (y.0, set_else clients place j None n ∙ y.1)
        | inr e ↦ absurd e
      ];
    }
