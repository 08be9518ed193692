-- A claim of which the work announces was one of a late source that must.
use Rattle.std.proofs.Common.{◌≡◌, ◌⊎◌, inl, inr, ℕ, zero, suc, ◌<◌, ◌≤◌, true, false, not, ◌&&◌, nat_le, slice_get, Some, Result, Ok, refl, sym, ◌∙◌, ap, subst, le-leb, leb-false, arith}
use Rattle.omx_types.specs.declared.error.OmxError.{OmxError}
use Rattle.omx_types.specs.declared.handle.Handle.{Handle}
use Rattle.omx_types.specs.declared.kind.Kind.{Kind}
use Rattle.omx_types.specs.declared.kind.Kind.TheVariants as kinds
use Rattle.il_machine.specs.declared.port.Port.{Port}
use Rattle.il_machine.specs.declared.port.PortKey.{PortKey}
use Rattle.il_machine.specs.declared.port.PortState.{PortState}
use Rattle.il_machine.specs.Answers.{plain}
use Rattle.il_machine.specs.Claims.{Claim, Claimed, ClaimedWork, Claims, WorkSeen, claim_idle, is_unannounced, must_announce, seen_work, with_work, work_of}
use Rattle.il_machine.specs.Headers.{seen}
use Rattle.il_machine.specs.Kinds.{is_late, is_source}
use Rattle.il_machine.specs.Look.{look}
use Rattle.il_machine.specs.Parts.{file_format}
use Rattle.il_machine.specs.Settings.{same_format}
use Rattle.il_machine.specs.World.{Component, World, port_of, ports_of}
use Rattle.machine_laws.proofs.Accepting.{both_of, is_not}
use Rattle.machine_laws.proofs.Claiming.{claim_passes}
use Rattle.machine_laws.proofs.Finding.{either}
use Rattle.machine_laws.proofs.Keys.{none_or_some}
use Rattle.machine_laws.proofs.Lookups.{port_parts}
use Rattle.machine_laws.proofs.Fitting.{format_itself}
use Rattle.play_model.specs.Acts.{Act, CanAct}
use Rattle.play_model.specs.Play.{IsRunning, Play}
use Rattle.play_world_laws.specs.Cast.{components_of, giver_of, links_of, script_place, taker_of}
use Rattle.play_world_laws.specs.Wiring.{IsSomeEnd}
use Rattle.play_world_laws.specs.Worlds.{Names}
use Rattle.play_world_laws.proofs.Claims.{claims_none, claims_some, never_work}
use Rattle.play_world_laws.proofs.Lists.{resolved}
use Rattle.play_world_laws.proofs.Numbers.{some_passes}
use Rattle.play_world_laws.specs.Changing.{is_held_at}
use Rattle.play_world_laws.specs.PlayWorlds.{IsActorAt, IsPlayWorld, PlayCast}
use Rattle.play_world_laws.specs.Leading.{PlayLeadsTo}
use Rattle.play_world_laws.proofs.Announcing.{claim_plays, claimed_is}
use Rattle.play_world_laws.proofs.ChangeEnds.{actor_there, end_there}
use Rattle.play_world_laws.proofs.Standing.{runs_back}

pub late_reads : (kind : Kind) → is_late kind ≡ true → is_source kind ≡ true
late_reads kinds.Late e = refl
late_reads kinds.Source e = refl
late_reads kinds.Decoder e = absurd cc
late_reads kinds.Alaw e = absurd cc
late_reads kinds.Mulaw e = absurd cc
late_reads kinds.Gain e = absurd cc
late_reads (kinds.Mixer n) e = absurd cc
late_reads (kinds.Splitter n) e = absurd cc
late_reads kinds.Sink e = absurd cc

-- the output of the change isn't held before its announcement, and once its format is set
unheld_at : (n : ℕ) → is_held_at true n ≡ false → (n ≡ 0) ⊎ (6 ≤ n)
unheld_at zero h = inl refl
unheld_at (suc n) h = either (nat_le (suc n) 5)
    (λ t.
    let one : nat_le 1 (suc n) ≡ true = le-leb 1 (suc n) (omega arith) in
    let z : true ≡ false = sym (rw (one, t) refl) ∙ h in
    absurd cc)
    (λ f. inr (let l = leb-false (suc n) 5 f in omega arith))

module _ (x : PlayCast) (recent : ℕ) (p : Play) (w : World) (W : IsPlayWorld x recent p w) (c : ℕ) (a : Component) (b : c < components_of x.cast) (e : slice_get w.components (script_place x.cast c) ≡ Some a) (A : IsActorAt x recent p w c a) (m : must_announce a ≡ true) where
  -- the port at which it must, and the link of it
  pub its_link : (l : ℕ) × (giver_of x.cast l ≡ c) × (l < links_of x.cast) × (((x.cast).layout).is_late l ≡ true) × ((p.change l).step ≡ 0)
  its_link =
      let r = some_passes (is_unannounced a) (ports_of a) m in
      let i : ℕ = r.0 in
      let y : Port = r.1 in
      let f = both_of (is_late a.settings.kind && not y.state.held) (not (same_format y.setting.definition.format (file_format a.file))) r.3 in
      let g = both_of (is_late a.settings.kind) (not y.state.held) f.0 in
      let S : IsSomeEnd x.cast y.key = W.ends (script_place x.cast c) i a y e r.2 in
      let k : ℕ = S.link in
      let N = ((W.cast_is).layout).network in
      let key = (port_parts a i y r.2).key in
      let place : (y.key).component ≡ script_place x.cast c = ap (λ (z : PortKey). z.component) key ∙ A.number in
      elim S.end [
        | inr h ↦
            let t : taker_of x.cast k ≡ c = (W.cast_is).apart (taker_of x.cast k) c (N.inside k S.below) b (sym (ap (λ (z : PortKey). z.component) h) ∙ place) in
            let s : (((x.cast).layout).network).is_source c ≡ true = sym A.source ∙ late_reads a.settings.kind g.0 in
            let u : (((x.cast).layout).network).is_source c ≡ false = ap (λ (j : ℕ). (((x.cast).layout).network).is_source j) (sym t) ∙ N.unfed k S.below in
            let z : true ≡ false = sym s ∙ u in
            absurd cc
        | inl h ↦
            let o = N.order k S.below in
            let n = N.inside k S.below in
            let t : giver_of x.cast k ≡ c = (W.cast_is).apart (giver_of x.cast k) c (omega arith) b (sym (ap (λ (z : PortKey). z.component) h) ∙ place) in
            let late : ((x.cast).layout).is_late k ≡ true = sym (A.late k (record { below = S.below; given_by = t })) ∙ g.0 in
            let E = end_there x recent p w W true k c a S.below t e in
            let index : i ≡ (x.cast).output_port k = sym (ap (λ (z : PortKey). z.port) key) ∙ ap (λ (z : PortKey). z.port) h in
            let s : Some E.port ≡ Some y = sym E.there ∙ (ap (port_of a) (sym index) ∙ r.2) in
            let is : E.port ≡ y = cc in
            let held : is_held_at true (p.change k).step ≡ false = sym (ap (λ (z : PortState). z.held) (E.end).state) ∙ (ap (λ (z : Port). z.state.held) is ∙ is_not y.state.held g.1) in (
              k,
              t,
              S.below,
              late,
              elim (unheld_at (p.change k).step held) [
                | inl z ↦ z
                | inr u ↦
                    let set : nat_le 6 (p.change k).step ≡ true = le-leb 6 (p.change k).step u in
                    let format : y.setting.definition.format ≡ x.format k = ap (λ (z : Port). z.setting.definition.format) (sym is) ∙ (E.end).format late (rw (late, set) refl) in
                    let file : file_format a.file ≡ x.format k = A.late_format k (record { below = S.below; given_by = t }) late in
                    let one : same_format y.setting.definition.format (file_format a.file) ≡ true = (λ j. same_format (format j) (file j)) ∙ format_itself (x.format k) in
                    let z : true ≡ false = sym one ∙ is_not (same_format y.setting.definition.format (file_format a.file)) f.1 in
                    absurd cc
              ],
            )
      ]

pub claim_announces : (x : PlayCast) (recent : ℕ) (p : Play) (w : World) (c : ℕ) (h : Handle) (result : Result Claimed OmxError) (v : World) (work : WorkSeen) → IsPlayWorld x recent p w → c < components_of x.cast → Names x.cast w c h → Claim w h result v
    → result ≡ Ok (ClaimedWork work) → work.announces ≡ true → (l : ℕ) × (giver_of x.cast l ≡ c) × CanAct (x.cast).layout p (Act.Announce l) × PlayLeadsTo x recent p v
claim_announces x recent p w c h result v work W b N K s says =
    let g = actor_there x recent p w c W b in
    let a : Component = g.0 in
    let A = g.2 in
    let R = resolved plain w h result v (λ i d. Claims (claim_idle (look w) d) i d w result v) (script_place x.cast c) a N g.1 K in
    elim (none_or_some (claim_idle (look w) a)) [
      | inr k ↦
          let t = (claims_some (claim_idle (look w) a) k.0 (script_place x.cast c) a w result v k.1 R).0 in
          let z : Ok k.0 ≡ Ok (ClaimedWork work) = sym t ∙ s in
          let y : k.0 ≡ ClaimedWork work = cc in
          absurd (never_work (look w) a work (k.1 ∙ ap (λ (q : Claimed). Some q) y))
      | inl n ↦
          let r = claims_none (claim_idle (look w) a) (script_place x.cast c) a w result v n R in
          let z : Ok (ClaimedWork (seen_work a (work_of (seen w.headers) a) w.headers)) ≡ Ok (ClaimedWork work) = sym r.0 ∙ s in
          let y : seen_work a (work_of (seen w.headers) a) w.headers ≡ work = cc in
          let m : must_announce a ≡ true = ap (λ (u : WorkSeen). u.announces) y ∙ says in
          let C = claim_passes (look w) a n in
          let L = its_link x recent p w W c a b g.1 A m in
          let l : ℕ = L.0 in
          let same = L.1 in
          let R0 = runs_back x recent p w c a A C.runs C.rests in
          let R1 : IsRunning p (giver_of x.cast l) = subst (λ (j : ℕ). IsRunning p j) (sym same) R0 in
          let e : slice_get w.components (script_place x.cast (giver_of x.cast l)) ≡ Some a = ap (λ (j : ℕ). slice_get w.components (script_place x.cast j)) same ∙ g.1 in
          let is = claimed_is x recent p w W l L.2 L.3 a e L.4 R1 C.free in
          let there : with_work (script_place x.cast c) a (work_of (seen w.headers) a) w ≡ with_work (script_place x.cast (giver_of x.cast l)) a (work_of (seen w.headers) a) w = ap (λ (j : ℕ). with_work (script_place x.cast j) a (work_of (seen w.headers) a) w) (sym same) in (
            l,
            same,
            (L.2, L.3, R1, L.4),
            record {
              effect = with_work (script_place x.cast c) a (work_of (seen w.headers) a) w;
              play = subst (λ (y : World). IsPlayWorld x recent p y) (sym (there ∙ is)) (claim_plays x recent p w W l L.2 L.3 a e L.4 R1 C.free);
              closes = r.1;
            },
          )
    ]
