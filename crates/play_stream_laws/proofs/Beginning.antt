-- The streams of a world with late sources where nothing was done yet, and as the conductor begins the next state.
use Rattle.std.proofs.Common.{◌≡◌, inr, ℕ, ◌*◌, ◌≤◌, nat_eq, List, [], length, refl, ◌∙◌, ap, eqb-true, arith}
use Rattle.std.proofs.lemmas.Bool.{eqb-false}
use Rattle.std.proofs.Math.Nat.{zero-mul}
use Rattle.il_machine.specs.World.{World, number_of, stream_of}
use Rattle.machine_laws.proofs.Finding.{either}
use Rattle.machine_laws.proofs.Keys.{at_there}
use Rattle.play_model.specs.Network.{Filled, frames_in, IsNetwork}
use Rattle.play_model.specs.Account.{IsOpening, IsSound}
use Rattle.play_model.specs.Content.{AreStreams, IsStream, Streams}
use Rattle.play_model.specs.Progress.{AllEnded}
use Rattle.play_model.proofs.Measure.{complete}
use Rattle.play_model.proofs.Plain.{ended_plain, opening_streams}
use Rattle.play_model.specs.Play.{Play}
use Rattle.play_model.specs.Acts.{Act, CanAct, acted}
use Rattle.play_model.proofs.Reaching.{ended_from}
use Rattle.play_world_laws.specs.Cast.{components_of, taker_of}
use Rattle.play_stream_laws.specs.Flowing.{flowing_in}
use Rattle.play_stream_laws.specs.Contents.{PlayContents, network_of}
use Rattle.play_stream_laws.specs.Streams.{AreNew}
use Rattle.play_stream_laws.proofs.Bounded.{network_bounded, sound_bounded}
use Rattle.play_stream_laws.proofs.Keeping.{no_bytes}
use Rattle.play_world_laws.specs.PlayWorlds.{IsPlayWorld, PlayCast}
use Rattle.play_stream_laws.specs.PlayContents.{HasPlayContents}
use Rattle.play_stream_laws.specs.PlayStreams.{HasPlayStreams}
use Rattle.play_stream_laws.proofs.PlayLinks.{flow_long}

module _ (x : PlayCast) (k : PlayContents) (recent : ℕ) (p : Play) (w : World) (W : IsPlayWorld x recent p w) where
  pub net_is : IsNetwork (network_of x.cast)
  net_is = network_bounded ((x.cast).layout).network ((W.cast_is).layout).network

  pub sound_is : p.phase ≤ 2 → IsSound (network_of x.cast) p.flow
  sound_is e = sound_bounded ((x.cast).layout).network p.flow ((W.reached).sound e)

  -- ---- nothing was done yet

  abbrev none : Streams
  none = record { taken = λ l. []; flowing = λ l. [] }

  opening_flow : IsOpening ((x.cast).layout).network p.flow → HasPlayContents x k w → AreStreams (network_of x.cast) k.model p.flow (record { taken = λ l. []; flowing = flowing_in x.cast w })
  opening_flow O C l d =
      let S : IsStream (network_of x.cast) k.model p.flow none l = opening_streams (network_of x.cast) k.model p.flow none C.lawful (record { done = O.done; going = O.going; empty = O.empty; taken = O.taken; open_ = O.open_ }) (record { taken = λ j. refl; flowing = λ j. refl }) l d in
      let long : length (flowing_in x.cast w l) ≡ 0 = flow_long x recent p w W l d ∙ ap (λ (h : List Filled). frames_in h * (x.cast).unit l) (O.empty l) ∙ zero-mul ((x.cast).unit l) in
      let nil = no_bytes (flowing_in x.cast w l) long in
      record { given = nil ∙ S.given; taken = S.taken; flowing = ap length nil ∙ S.flowing }

  pub opening_has : p.phase ≤ 1 → HasPlayContents x k w → AreNew x.cast w → HasPlayStreams x k p w
  opening_has e C new =
      let O = (W.reached).opening e in
      record {
        contents = C;
        taken = λ l. [];
        flowing = λ z. opening_flow O C;
        whole = λ z. absurd (omega arith);
        done = λ z c l. absurd (omega arith);
        new = λ l a s d sink f g. (new l a s d sink f g).0;
        sinks = λ l a s d sink f g.
            let c : ℕ = taker_of x.cast l in
            let A = W.actors c a ((((W.cast_is).layout).network).inside l d) f in
            let done = at_there (stream_of (number_of a) w) (λ z. z.frames ≡ (p.flow).done c) s g A.done in
            inr ((new l a s d sink f g).1, done ∙ O.done c, O.going c);
      }

  -- ---- the next state is begun

  pub begun_streams : CanAct (x.cast).layout p Act.Begin → HasPlayStreams x k p w → HasPlayStreams x k (acted (x.cast).layout Act.Begin p) w
  begun_streams C H =
      let all : p.phase ≡ 2 → AllEnded (network_of x.cast) p.flow = λ two c d. ended_from (x.cast).layout p W.reached two (C.ends two) (components_of x.cast) c (omega arith) d in
      record {
        contents = H.contents;
        taken = H.taken;
        flowing = λ e. H.flowing (omega arith);
        whole = λ e stream P l b. either (nat_eq p.phase 2)
            (λ t.
            let two : p.phase ≡ 2 = eqb-true _ _ t in
            ended_plain (network_of x.cast) k.model p.flow (record { taken = H.taken; flowing = flowing_in x.cast w }) stream net_is (H.contents).lawful (sound_is (omega arith)) (H.flowing (omega arith)) (all two) P l b)
            (λ t. let n = eqb-false _ _ t in H.whole (omega arith) stream P l b);
        done = λ e c b. either (nat_eq p.phase 2)
            (λ t. let two : p.phase ≡ 2 = eqb-true _ _ t in (complete (network_of x.cast) p.flow net_is (sound_is (omega arith)) (all two)).done c b)
            (λ t. let n = eqb-false _ _ t in H.done (omega arith) c b);
        new = H.new;
        sinks = H.sinks;
      }
