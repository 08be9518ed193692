-- An act with its close-out keeps the streams of a world with late sources.
use Rattle.std.proofs.Common.{◌≡◌, ◌⊎◌, inl, inr, ℕ, List, set, slice_get, Option, None, Some, option_map, Result, Ok, Err, sym, ◌∙◌, ap, subst}
use Rattle.omx_types.specs.declared.error.OmxError.{OmxError}
use Rattle.il_machine.specs.declared.answer.Acted.{Acted}
use Rattle.il_machine.specs.declared.answer.Acted.TheVariants as acted_as
use Rattle.il_machine.specs.declared.answer.Why.{Why}
use Rattle.il_machine.specs.Answers.{Acts, Answers}
use Rattle.il_machine.specs.Due.{ClosesTo}
use Rattle.il_machine.specs.World.{Component, World}
use Rattle.play_model.specs.Play.{Play}
use Rattle.play_stream_laws.specs.Contents.{PlayContents}
use Rattle.play_stream_laws.proofs.Closing.{closes_keep, flow_none, flow_twice, keeps_none, one_flow, one_keeps}
use Rattle.play_stream_laws.proofs.Keeping.{Keeps, KeepsFlow, seat}
use Rattle.play_world_laws.specs.PlayWorlds.{IsPlayWorld, PlayCast}
use Rattle.play_stream_laws.specs.PlayContents.{HasPlayContents}
use Rattle.play_stream_laws.specs.PlayStreams.{HasPlayStreams}
use Rattle.play_stream_laws.proofs.PlayClosing.{IsCalm, IsCalmAt, calm_world, closes_calm, one_calm}
use Rattle.play_stream_laws.proofs.PlayKeeping.{Stays, contents_kept, stays, stays_twice, streams_kept}

module _ (x : PlayCast) (k : PlayContents) (recent later : ℕ) (p q : Play) (w v : World) (W : IsPlayWorld x recent p w) (H : HasPlayStreams x k p w) (V : IsPlayWorld x later q v) (same : q.phase ≡ p.phase) where
  -- by what the act leaves before its close-out
  pub set_closes : (u : World) → Stays w u → HasPlayContents x k u → (p.phase ≡ 2 → KeepsFlow x.cast w u × IsCalm u) → ClosesTo u v → HasPlayStreams x k q v
  set_closes u K C F closes =
      let L = closes_keep u v closes in
      streams_kept x k recent later p q w v W V same (stays_twice w u v K (stays u v L)) (λ t. flow_twice x.cast w u v (F t).0 (closes_calm x.cast u v (F t).1 closes)) (contents_kept x k u v L C) H

  -- where the components are set as before
  pub act_closes : (u : World) → Keeps w u → (p.phase ≡ 2 → KeepsFlow x.cast w u × IsCalm u) → ClosesTo u v → HasPlayStreams x k q v
  act_closes u K = set_closes u (stays w u K) (contents_kept x k w u K H.contents)

  -- the world stays
  pub world_stays : v ≡ w → HasPlayStreams x k q v
  world_stays e =
      let K : Keeps w v = subst (λ (u : World). Keeps w u) (sym e) (keeps_none w) in
      streams_kept x k recent later p q w v W V same (stays w v K) (λ t. subst (λ (u : World). KeepsFlow x.cast w u) (sym e) (flow_none x.cast w)) (contents_kept x k w v K H.contents) H

  -- one component changes
  pub one_closes : (i : ℕ) (a d : Component) (u : World) → slice_get w.components i ≡ Some a → u.components ≡ set w.components i d → u.streams ≡ w.streams → u.headers ≡ w.headers
      → seat d ≡ seat a → d.work ≡ a.work → d.part ≡ a.part → (p.phase ≡ 2 → IsCalmAt a → IsCalmAt d) → ClosesTo u v → HasPlayStreams x k q v
  one_closes i a d u e c s h t f g Q C = act_closes u (one_keeps w u i a d e c s t) (λ two.
      let all = calm_world x recent p w W two in
      (one_flow w u i a d e c x.cast h f g, one_calm w u i d c (Q two (all i a e)) all)) C

  -- headers alone change
  pub headers_close : (u : World) → u.components ≡ w.components → u.streams ≡ w.streams → (p.phase ≡ 2 → KeepsFlow x.cast w u) → ClosesTo u v → HasPlayStreams x k q v
  headers_close u c s F C = act_closes u (record { streams = s; seats = λ i. ap (λ (cs : List Component). option_map seat (slice_get cs i)) c }) (λ two.
      (F two, λ i a e. calm_world x recent p w W two i a (ap (λ (cs : List Component). slice_get cs i) (sym c) ∙ e))) C

-- an act that was done, or nothing
pub done_or_not : {E : Type 0} (o : Option Why) (result : Result Acted E) (w u v : World) → Acts o result w u v → (v ≡ w) ⊎ ((result ≡ Ok acted_as.Did) × ClosesTo u v)
done_or_not None result w u v h = inr h
done_or_not (Some why) result w u v h = inl h.1

-- a call that was answered with a value, or nothing
pub answered : {T : Type 0} (o : Option OmxError) (result : Result T OmxError) (w v : World) (Then : T → Type 0) → Answers o result w v Then → (v ≡ w) ⊎ ((y : T) × Then y)
answered None (Ok y) w v Then h = inr (y, h)
answered None (Err y) w v Then h = absurd h
answered (Some y) result w v Then h = inl h.1
