-- A note that is read is taken in the same way in a world that is read otherwise, and a client object comes back.
use Rattle.std.proofs.Common.{◌≡◌, ℕ, Bool, true, false, List, [], ◌∷◌, ◌++◌, map, set, drop, slice_get, Option, Some, Result, Ok, sym, ◌∙◌, ap, subst}
use Rattle.omx_types.specs.declared.command.Note.{Note}
use Rattle.omx_types.specs.declared.command.Note.TheVariants as notes
use Rattle.omx_types.specs.declared.error.OmxError.{OmxError}
use Rattle.omx_types.specs.declared.handle.Handle.{Handle}
use Rattle.il_machine.specs.Answers.{plain}
use Rattle.il_machine.specs.Buffers.{held}
use Rattle.il_machine.specs.Due.{ClosesTo}
use Rattle.il_machine.specs.Headers.{find_header}
use Rattle.il_machine.specs.Notes.{EndNote, TakeFrom, TakeNote, TakenEmpty, TakenFilled, Took, TookNote, back_in, first_taken, with_client, with_given}
use Rattle.il_machine.specs.World.{Component, Stream, World, number_of, place_of, with_component}
use Rattle.machine_laws.proofs.Keys.{is_there, there_is}
use Rattle.read_world_laws.proofs.Calls.{named_in, place_in}
use Rattle.read_world_laws.proofs.Closing.{closes_in, get_in, set_in, with_in}
use Rattle.read_world_laws.proofs.Reading.{IsFair, Reading, read, read_component}

pub split_front : (ns : List Note) (note : Note) → slice_get ns 0 ≡ Some note → ns ≡ note ∷ drop 1 ns
split_front [] note e = absurd cc
split_front (n ∷ ns) note e = let s : n ≡ note = cc in ap (λ (y : Note). y ∷ ns) s

module _ (reading : Reading) (fair : IsFair reading) (streams : List Stream → List Stream) (outs : (out : Bool) → reading.out out ≡ out) where
  abbrev twin : Component → Component
  twin c = read_component reading c

  abbrev mirror : World → World
  mirror w = read reading streams w

  -- ---- a note goes to the client

  module _ (w : World) (i : ℕ) (c : Component) (note : Note) (g : slice_get w.components i ≡ Some c) (e : slice_get c.notes 0 ≡ Some note) (k : reading.notes (note ∷ []) ≡ note ∷ [])
      (l : reading.given (w.given ++ record { component = number_of c; note = note } ∷ []) ≡ reading.given w.given ++ record { component = number_of c; note = note } ∷ []) where
    -- it is at the front there, too
    front_in : reading.notes c.notes ≡ note ∷ reading.notes (drop 1 c.notes)
    front_in = ap reading.notes (split_front c.notes note e) ∙ (fair.append (note ∷ []) (drop 1 c.notes) ∙ (λ i. k i ++ reading.notes (drop 1 c.notes)))

    taken_so : first_taken (twin c) ≡ twin (first_taken c)
    taken_so =
        let f = front_in in
        let o = outs true in
        λ j. record (twin c) { notes = drop 1 (f j); client_out = sym o j }

    given_in : with_given i (twin c) note (mirror w) ≡ mirror (with_given i c note w)
    given_in =
        let t = taken_so in
        (λ j. record (mirror w) { components = set (map twin w.components) i (t j); given = sym l j })
        ∙ (λ j. record (mirror w) { components = set_in reading fair streams w.components i (first_taken c) j; given = reading.given (w.given ++ record { component = number_of c; note = note } ∷ []) })

    pub takes_so : (h : Handle) (result : Result Took OmxError) (v : World) → place_of h w.components ≡ Some i → c.client_out ≡ false → TakeFrom w i c false (Some note) result v → TakeNote (mirror w) h result (mirror v)
    takes_so h result v p o s =
        let front : slice_get (reading.notes c.notes) 0 ≡ Some note = ap (λ (ns : List Note). slice_get ns 0) front_in in
        let out : reading.out c.client_out ≡ false = outs c.client_out ∙ o in
        let t : TakeFrom (mirror w) i (twin c) (reading.out c.client_out) (slice_get (reading.notes c.notes) 0) result (mirror v) =
        subst (λ (q : Bool). TakeFrom (mirror w) i (twin c) q (slice_get (reading.notes c.notes) 0) result (mirror v)) (sym out)
        (subst (λ (q : Option Note). TakeFrom (mirror w) i (twin c) false q result (mirror v)) (sym front) (by note given_in s)) in
        named_in reading fair streams plain w h result v (λ j d. TakeFrom (mirror w) j d d.client_out (slice_get d.notes 0) result (mirror v)) i c p g t
      where
        closes : (y : Note) → with_given i (twin c) y (mirror w) ≡ mirror (with_given i c y w) → ClosesTo (with_given i c y w) v → ClosesTo (with_given i (twin c) y (mirror w)) (mirror v)
        closes y k C = subst (λ (u : World). ClosesTo u (mirror v)) (sym k) (closes_in reading fair streams (with_given i c y w) v C)

        header : (y : Note) (number : ℕ) → with_given i (twin c) y (mirror w) ≡ mirror (with_given i c y w) → ClosesTo (with_client number (with_given i c y w)) v → ClosesTo (with_client number (with_given i (twin c) y (mirror w))) (mirror v)
        header y number k C = subst (λ (u : World). ClosesTo (with_client number u) (mirror v)) (sym k) (closes_in reading fair streams (with_client number (with_given i c y w)) v C)

        by : (y : Note) → with_given i (twin c) y (mirror w) ≡ mirror (with_given i c y w) → TakeFrom w i c false (Some y) result v → TakeFrom (mirror w) i (twin c) false (Some y) result (mirror v)
        by (notes.Told event) k r = (r.0, closes (notes.Told event) k r.1)
        by (notes.EmptyDone number) k r =
            let z = there_is (find_header number w.headers) (λ q. (result ≡ Ok (TookNote (TakenEmpty (held q)))) × ClosesTo (with_client number (with_given i c (notes.EmptyDone number) w)) v) r in
            is_there (find_header number w.headers) (λ q. (result ≡ Ok (TookNote (TakenEmpty (held q)))) × ClosesTo (with_client number (with_given i (twin c) (notes.EmptyDone number) (mirror w))) (mirror v)) z.0 z.1 ((z.2).0, header (notes.EmptyDone number) number k (z.2).1)
        by (notes.FillDone number) k r =
            let z = there_is (find_header number w.headers) (λ q. (result ≡ Ok (TookNote (TakenFilled (held q)))) × ClosesTo (with_client number (with_given i c (notes.FillDone number) w)) v) r in
            is_there (find_header number w.headers) (λ q. (result ≡ Ok (TookNote (TakenFilled (held q)))) × ClosesTo (with_client number (with_given i (twin c) (notes.FillDone number) (mirror w))) (mirror v)) z.0 z.1 ((z.2).0, header (notes.FillDone number) number k (z.2).1)

  -- ---- a client object comes back

  pub ends_in : reading.out false ≡ false → (w : World) (h : Handle) (v : World) → EndNote w h v → EndNote (mirror w) h (mirror v)
  ends_in o w h v s =
      let i = there_is (place_of h w.components) _ s in
      let c = there_is (slice_get w.components i.0) (λ c. ClosesTo (with_component i.0 (back_in c) w) v) i.2 in
      let same : back_in (twin c.0) ≡ twin (back_in c.0) = λ j. record (twin c.0) { client_out = sym o j } in
      let C : ClosesTo (with_component i.0 (back_in (twin c.0)) (mirror w)) (mirror v) =
      subst (λ (u : World). ClosesTo u (mirror v)) (sym (ap (λ (d : Component). with_component i.0 d (mirror w)) same ∙ with_in reading fair streams i.0 (back_in c.0) w)) (closes_in reading fair streams (with_component i.0 (back_in c.0) w) v c.2) in
      rw (place_in reading fair streams h w.components ∙ i.1, get_in reading fair streams w.components i.0 c.0 c.1) C
