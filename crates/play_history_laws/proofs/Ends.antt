-- Where a history ends: the play is over where all was asked and the world is at rest, and each file is whole.
use Rattle.std.proofs.Common.{◌≡◌, ℕ, zero, suc, ◌<◌, ◌≤◌, false, List, [], ◌∷◌, ◌++◌, map, slice_get, Some, refl, sym, ◌∙◌, ap, subst, arith}
use Rattle.omx_types.specs.declared.command.Note.{Note}
use Rattle.omx_types.specs.declared.state.State.TheVariants.{Loaded}
use Rattle.il_machine.specs.Queued.{notes_given}
use Rattle.il_machine.specs.World.{Component, World, number_of}
use Rattle.play_model.specs.Content.{ArePlain}
use Rattle.play_model.specs.Play.{Play}
use Rattle.play_model.specs.Reached.{IsOver}
use Rattle.play_world_laws.specs.Cast.{components_of, script_place, taker_of}
use Rattle.play_world_laws.specs.Standing.{state_at}
use Rattle.play_world_laws.specs.Telling.{out_of, state_note}
use Rattle.play_stream_laws.specs.Contents.{PlayContents, network_of}
use Rattle.play_stream_laws.specs.Fronts.{AreFronts, AreWritten}
use Rattle.play_world_laws.specs.PlayWorlds.{PlayCast}
use Rattle.play_world_laws.proofs.ChangeEnds.{actor_there}
use Rattle.play_world_laws.proofs.Standing.{state_is}
use Rattle.play_stream_laws.specs.PlayStreams.{HasPlayStreams}
use Rattle.play_stream_laws.proofs.PlayEnds.{written_fronts, written_whole}
use Rattle.read_world_laws.specs.Inside.{inside, taken_in}
use Rattle.read_world_laws.proofs.Inside.{get_in}
use Rattle.play_history_laws.specs.Following.{IsLoadedAt, IsPlayed, IsTaken}
use Rattle.play_history_laws.specs.Order.{Cursor}

-- ---- at rest

four_by : (s : ℕ) → s ≤ 4 → state_at 4 s ≡ Loaded → state_note 4 s ≡ [] → s ≡ 4
four_by zero b e n = absurd cc
four_by (suc zero) b e n = absurd cc
four_by (suc (suc zero)) b e n = absurd cc
four_by (suc (suc (suc zero))) b e n = absurd cc
four_by (suc (suc (suc (suc zero)))) b e n = refl
four_by (suc (suc (suc (suc (suc s))))) b e n = absurd (omega (arith, b))

front_empty : (xs ys : List Note) → xs ++ ys ≡ [] → xs ≡ []
front_empty [] ys e = refl
front_empty (x ∷ xs) ys e = absurd cc

back_in_all : (cs : List Component) (i : ℕ) (d : Component) → slice_get (map taken_in cs) i ≡ Some d → d.client_out ≡ false
back_in_all [] i d e = absurd cc
back_in_all (c ∷ cs) zero d e = let is : taken_in c ≡ d = cc in ap (λ (z : Component). z.client_out) (sym is)
back_in_all (c ∷ cs) (suc i) d e = back_in_all cs i d e

rested_in : (cs : List Component) → ((i : ℕ) (a : Component) → slice_get cs i ≡ Some a → IsLoadedAt a) → (i : ℕ) (d : Component) → slice_get (map taken_in cs) i ≡ Some d → IsLoadedAt d
rested_in [] h i d e = absurd cc
rested_in (c ∷ cs) h zero d e =
    let is : taken_in c ≡ d = cc in
    let R = h 0 c refl in
    subst IsLoadedAt is (record { loaded = R.loaded; told = R.told })
rested_in (c ∷ cs) h (suc i) d e = rested_in cs (λ j a f. h (suc j) a f) i d e

pub over_at_rest : (x : PlayCast) (k : Cursor) (recent : ℕ) (p : Play) (w : World) → IsTaken x k recent p w → k.phase ≡ 4 → ((i : ℕ) (a : Component) → slice_get w.components i ≡ Some a → IsLoadedAt a) → IsOver (x.cast).layout p
over_at_rest x k recent p w T four rest = record { phase = phase; all = all_told }
  where
    D : IsPlayed x k recent p (inside w)
    D = T.played

    phase : p.phase ≡ 4
    phase = (D.follows).phase ∙ four

    all_told : (c : ℕ) → c < components_of x.cast → p.stage c ≡ 4
    all_told c b =
        let t = actor_there x recent p (inside w) c D.play b in
        let a : Component = t.0 in
        let A = t.2 in
        let R = rested_in w.components rest (script_place x.cast c) a t.1 in
        let state : state_at 4 (p.stage c) ≡ Loaded = ap (λ (n : ℕ). state_at n (p.stage c)) (sym phase) ∙ (sym (state_is x recent p (inside w) c a A) ∙ R.loaded) in
        let o : a.client_out ≡ false = back_in_all w.components (script_place x.cast c) a t.1 in
        let n = R.told in
        let none = sym A.notes ∙ (λ i. out_of (o i) (notes_given (number_of a) (inside w)) ++ n i) in
        let note : state_note 4 (p.stage c) ≡ [] = ap (λ (m : ℕ). state_note m (p.stage c)) (sym phase) ∙ front_empty (state_note p.phase (p.stage c)) _ none in
        four_by (p.stage c) (((D.play).reached).stage c b) state note

-- ---- what the sinks have taken

pub whole_so : (x : PlayCast) (c : PlayContents) (k : Cursor) (recent : ℕ) (p : Play) (w : World) (stream : ℕ → List ℕ) → IsTaken x k recent p w → HasPlayStreams x c p (inside w) → ArePlain (network_of x.cast) c.model stream → 3 ≤ k.phase → AreWritten x.cast c w stream
whole_so x c k recent p w stream T H P late = let e = ((T.played).follows).phase in λ l a s b sink f g. written_whole x c recent p (inside w) (T.played).play H stream P (omega (arith, e, late)) l (taken_in a) s b sink (get_in w.components (script_place x.cast (taker_of x.cast l)) a f) g

pub fronts_so : (x : PlayCast) (c : PlayContents) (k : Cursor) (recent : ℕ) (p : Play) (w : World) (stream : ℕ → List ℕ) → IsTaken x k recent p w → HasPlayStreams x c p (inside w) → ArePlain (network_of x.cast) c.model stream → AreFronts x.cast c w stream
fronts_so x c k recent p w stream T H P = λ l a s b sink f g. written_fronts x c recent p (inside w) (T.played).play H stream P l (taken_in a) s b sink (get_in w.components (script_place x.cast (taker_of x.cast l)) a f) g
