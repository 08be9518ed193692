-- The bytes on their way after a step that failed: those that were on their way before.
use Rattle.std.proofs.Common.{◌≡◌, inl, inr, ℕ, ◌<◌, Bool, true, false, List, [], set, Some, option_map, Option, refl, sym, ◌∙◌, ap, arith}
use Rattle.omx_types.specs.declared.fault.PartFault.{PartFault}
use Rattle.il_machine.specs.declared.header.Spot.TheVariants as spots
use Rattle.il_machine.specs.Headers.{load_at, load_of, put, loaded}
use Rattle.il_machine.specs.World.{Component, HeaderRecord, Load, Picked, Stream, Work, World, number_of, stream_of}
use Rattle.play_model.specs.Play.{Play}
use Rattle.play_world_laws.specs.Cast.{links_of, script_place, input_at, output_at}
use Rattle.play_world_laws.specs.Wiring.{work_in}
use Rattle.play_world_laws.specs.Worlds.{IsWork}
use Rattle.play_world_laws.proofs.Folds.{all_made}
use Rattle.play_world_laws.proofs.Landings.{Landed, put_one}
use Rattle.play_world_laws.proofs.Picks.{IsPick, key_is_end}
use Rattle.play_world_laws.proofs.Wanted.{end_place}
use Rattle.play_world_laws.proofs.Worked.{IsHeaderOf}
use Rattle.play_stream_laws.specs.Flowing.{bytes_on, content_of, flowing_in}
use Rattle.play_stream_laws.proofs.Closing.{parts_kept}
use Rattle.play_stream_laws.proofs.Keeping.{KeepsFlow}
use Rattle.play_stream_laws.proofs.Putting.{put_held, put_ready}
use Rattle.play_world_laws.specs.PlayWorlds.{IsPlayWorld, PlayCast}
use Rattle.play_step_laws.proofs.Picks.{link_picked}
use Rattle.play_step_laws.proofs.Poised.{IsPoised}
use Rattle.play_step_laws.proofs.Worked.{before_end, header_of}
use Rattle.play_history_laws.specs.Undone.{let_go}
use Rattle.play_step_laws.proofs.HeadersLand.{AllLand, after_off, after_other, after_own, not_drained, out_at, still_is}
use Rattle.play_stream_laws.proofs.BytesLand.{in_bytes as input_bytes, off_bytes, out_bytes as output_bytes, ports_apart}
use Rattle.play_history_laws.proofs.Landing.{all_land, hs as landed_headers, land as landed_as, landed_is, load_in_, ls as landed_list}

module _ (x : PlayCast) (recent : ℕ) (p : Play) (w : World) (W : IsPlayWorld x recent p w) (c : ℕ) (a : Component) (U : IsPoised x.cast p w c a) (work : Work) (f : a.work ≡ Some work) (J : IsWork x.cast p c a work)
    (s : Stream) (g : stream_of (number_of a) w ≡ Some s) (fault : PartFault) (m : ℕ) (text : List ℕ) where
  abbrev i : ℕ
  i = script_place x.cast c

  abbrev xs : List Picked
  xs = work.headers

  abbrev hs : List HeaderRecord
  hs = landed_headers x.cast p w c a U work f J s g fault m text

  abbrev ls : List Landed
  ls = landed_list x.cast p w c a U work f J s g fault m text

  abbrev land : Picked → HeaderRecord → Landed
  land = landed_as x.cast p w c a U work f J s g fault m text

  abbrev lands : AllLand x.cast p w c a work land ls
  lands = all_land x.cast p w c a U work f J s g fault m text

  abbrev at_last : hs ≡ all_made (put_one i) ls w.headers
  at_last = landed_is x.cast p w c a U work f J s g fault m text

  -- ---- each link

  out_bytes : (k : ℕ) (d : k < links_of x.cast) (j : ℕ) (y : Picked) (r : HeaderRecord) → IsPick x.cast p c xs j y k false → IsHeaderOf x.cast w c (number_of a) y k r
      → bytes_on (output_at x.cast k) (input_at x.cast k) (work_in w.components (input_at x.cast k)) hs ≡ flowing_in x.cast w k
  out_bytes k d j y r P H =
      let ds : List ℕ = work_in w.components (input_at x.cast k) in
      let z : Landed = land y r in
      let key = key_is_end x.cast p U.cast c xs j k y false P in
      output_bytes x recent p w W c a U work f J land ls lands hs at_last (λ (q : List ℕ). q) k d j y r P H (λ ks R.
      (λ τ. bytes_on (output_at x.cast k) (input_at x.cast k) ds (put (key τ) spots.TodoFront z.number (loaded z.load) ks))
      ∙ put_ready (number_of a) (output_at x.cast k) spots.TodoFront z.number z.load ks R.2 (out_at x.cast p w c a U work f J land ls lands k y r ks H R) (input_at x.cast k) ds refl
      (ports_apart x recent p w W c a U work f J land ls lands k d) (not_drained x.cast p w c a U work f J land ls lands k d j y r P H))

  in_bytes : (k : ℕ) (d : k < links_of x.cast) (j : ℕ) (y : Picked) (r : HeaderRecord) → IsPick x.cast p c xs j y k true → IsHeaderOf x.cast w c (number_of a) y k r
      → bytes_on (output_at x.cast k) (input_at x.cast k) [] hs ≡ flowing_in x.cast w k
  in_bytes k d j y r P H =
      let z : Landed = land y r in
      let key = key_is_end x.cast p U.cast c xs j k y true P in
      let load = load_in_ x.cast p w c a U work f J s g fault m text j k y r P in
      input_bytes x recent p w W c a U work f J land ls lands hs at_last (λ (q : List ℕ). q) k d j y r P H (λ ks R.
      let content : content_of (load_at z.number ks) ≡ z.load.content = ap (λ (q : Option HeaderRecord). content_of (option_map load_of q)) (still_is x.cast p w c a U work f J land ls lands k y r ks H R) ∙ ap (λ (q : Load). q.content) (sym load) in
      (λ τ. bytes_on (output_at x.cast k) (input_at x.cast k) [] (put (key τ) spots.TodoFront z.number (loaded z.load) ks))
      ∙ put_held (number_of a) z.number z.load ks R.2 (out_at x.cast p w c a U work f J land ls lands k y r ks H R) (output_at x.cast k) (input_at x.cast k) (ports_apart x recent p w W c a U work f J land ls lands k d) 0 (omega arith) (sym content))

  -- ---- the world

  abbrev v : World
  v = record w { components = set w.components i (let_go a); headers = hs }

  bytes_at_pick : (input : Bool) (k : ℕ) (d : k < links_of x.cast) (j : ℕ) (y : Picked) → IsPick x.cast p c xs j y k input → flowing_in x.cast v k ≡ flowing_in x.cast w k
  bytes_at_pick false k d j y P =
      let H = header_of x.cast p w c a U work f J j k y false P in
      ap (λ (ds : List ℕ). bytes_on (output_at x.cast k) (input_at x.cast k) ds hs) (after_other x.cast p w c a U work f J land ls lands (let_go a) refl false true k (U.apart k d) (end_place false x.cast c k P.of_link)) ∙ out_bytes k d j y H.0 P H.1
  bytes_at_pick true k d j y P =
      let H = header_of x.cast p w c a U work f J j k y true P in
      ap (λ (ds : List ℕ). bytes_on (output_at x.cast k) (input_at x.cast k) ds hs) (after_own x.cast p w c a U work f J land ls lands (let_go a) refl true k P.of_link) ∙ in_bytes k d j y H.0 P H.1

  all_bytes : (k : ℕ) → k < links_of x.cast → flowing_in x.cast v k ≡ flowing_in x.cast w k
  all_bytes k d = elim (link_picked x.cast p w c a U (before_end x.cast p w c a U work f J) xs J.ports k d) [
    | inl r ↦ bytes_at_pick r.2 k d r.0 r.1 r.3
    | inr h ↦ ap (λ (ds : List ℕ). bytes_on (output_at x.cast k) (input_at x.cast k) ds hs) (after_off x.cast p w c a U work f J land ls lands (let_go a) refl true k d h) ∙ off_bytes x recent p w W c a U work f J land ls lands hs at_last k d h
  ]

  pub undone_flow : KeepsFlow x.cast w v
  undone_flow = record { bytes = all_bytes; parts = parts_kept w v i a (let_go a) U.there refl refl }
