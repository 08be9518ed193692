-- A run in which all was requested, at its end: what the components have told, and how they stand.
use Rattle.std.proofs.Common.{◌≡◌, inl, inr, ℕ, zero, suc, ◌<◌, ◌≤◌, Bool, false, All, List, [], ◌∷◌, length, slice_get, Some, refl, sym, ◌∙◌, ap, subst, arith}
use Rattle.std.specs.Prelude.{count_by, if◌then◌else◌}
use Rattle.std.proofs.lemmas.Bool.{cases_lt}
use Rattle.std.proofs.lemmas.List.Elements.{All-nil}
use Rattle.std.proofs.lemmas.Option.{slice_get_within}
use Rattle.omx_types.specs.declared.handle.Handle.{Handle}
use Rattle.omx_types.specs.declared.state.State.TheVariants.{Loaded}
use Rattle.il_machine.specs.Acts.{Act, Reply}
use Rattle.il_machine.specs.Headers.{find_header}
use Rattle.il_machine.specs.Run.{Run}
use Rattle.il_machine.specs.World.{Component, HeaderRecord, World}
use Rattle.machine_laws.proofs.Every.{at_place}
use Rattle.machine_laws.proofs.Finding.{found_head}
use Rattle.play_build_laws.specs.Dismantling.{IsResting}
use Rattle.play_build_laws.specs.Stages.{IsStage, Joining}
use Rattle.play_forms.specs.Plans.{PlanValue}
use Rattle.play_model.specs.Reached.{IsOver}
use Rattle.play_world_laws.specs.Cast.{script_place}
use Rattle.play_world_laws.specs.PlayWorlds.{PlayCast}
use Rattle.play_world_laws.specs.Telling.{last_told}
use Rattle.play_plan_laws.specs.Assemblies.{IsReady, PlayFiles, assembly_of, play_cast_of}
use Rattle.play_plan_laws.specs.Endings.{IsAtEnd, IsPlayedOut, ends_of}
use Rattle.play_result_laws.specs.Asked.{AreAllAt, tuned}
use Rattle.play_turn_laws.proofs.Planned.{plan_over}
use Rattle.read_world_laws.specs.Inside.{inside}
use Rattle.read_world_laws.specs.Mended.{is_fault, mend}
use Rattle.play_history_laws.specs.Following.{IsLoadedAt}
use Rattle.play_history_laws.specs.Order.{Cursor, EachHasHeard}
use Rattle.play_history_laws.proofs.FaultFronts.{over_so}
use Rattle.play_history_laws.specs.Askings.{IsPlanHistory, read_of}
use Rattle.play_history_laws.specs.Requests.{AreRequested}
use Rattle.play_history_laws.proofs.Answered.{states_told, there}
use Rattle.play_history_laws.proofs.Askings.{come, link_is, many_now, placed, states_heard}
use Rattle.play_history_laws.proofs.Files.{history, requested_none}
use Rattle.play_history_laws.proofs.Readings.{all_as_read, parted_in}

-- of what is told in the last phase Loaded is told last
told_it : (stage : ℕ) → stage ≤ 4 → last_told 4 stage ≡ Some Loaded → stage ≡ 4
told_it zero b e = absurd cc
told_it (suc zero) b e = absurd cc
told_it (suc (suc zero)) b e = absurd cc
told_it (suc (suc (suc zero))) b e = absurd cc
told_it (suc (suc (suc (suc n)))) b e = omega (arith, b)

module _ (plan : PlanValue) (files : PlayFiles) (R : IsReady plan files)
    (handles : List Handle) (w : World) (S : IsStage (assembly_of plan files) (Joining (length plan.joints)) handles w)
    (links : List ℕ) (steps : List (Act × Reply)) (A : AreRequested (tuned plan files) handles links [] steps) (v : World) (r : Run w steps v) where
  abbrev x : PlayCast
  x = play_cast_of plan

  abbrev k : Cursor
  k = (history plan files R handles w S links [] steps A v r).0

  abbrev G : IsPlanHistory plan files handles w steps k v
  G = (history plan files R handles w S links [] steps A v r).1

  at_four : 1 ≤ length plan.parts → k.phase ≡ 4
  at_four some = (history plan files R handles w S links [] steps A v r).2 refl some

  -- ---- the components rest, so they have told it

  all_heard : 1 ≤ length plan.parts → ((place : ℕ) (c : Component) → slice_get v.components place ≡ Some c → IsLoadedAt c) → EachHasHeard x.cast (read_of v) (λ number progress. progress.state ≡ Some Loaded)
  all_heard some L number b d e =
      let B = come plan files handles w steps k v G in
      let over = over_so x k B.recent B.now B.later v B.faulty (at_four some) L in
      let W = ((((B.faulty).taken).played).play) in
      let H = (W.actors number d b e).heard_so in
      H.state ∙ (λ j. last_told (over.phase j) (over.all number b j))

  pub all_rest : ((place : ℕ) (c : Component) → slice_get v.components place ≡ Some c → IsLoadedAt c) → AreAllAt (tuned plan files) Loaded steps
  all_rest L place b = states_told plan files handles w steps k v G Loaded (all_heard (omega (arith, b)) L) place b

  -- ---- they have told it, so the play is over

  abbrev u : World
  u = inside (mend (come plan files handles w steps k v G).later v)

  module _ (T : AreAllAt (tuned plan files) Loaded steps) where
    over_told : 1 ≤ length plan.parts → IsOver (x.cast).layout (come plan files handles w steps k v G).now
    over_told some =
        let B = come plan files handles w steps k v G in
        let P = ((B.faulty).taken).played in
        let W = P.play in
        let phase : (B.now).phase ≡ 4 = (P.follows).phase ∙ at_four some in
        record {
          phase = phase;
          all = λ c b.
              let d = there plan files handles w steps k v G (script_place x.cast c) (placed plan files handles w steps k v G c b) in
              let heard_it = states_heard plan files handles w steps k v G Loaded T c b d.0 d.1 in
              let H = (W.actors c d.0 b d.1).heard_so in
              told_it ((B.now).stage c) ((W.reached).stage c b) (ap (λ (n : ℕ). last_told n ((B.now).stage c)) (sym phase) ∙ (sym H.state ∙ heard_it));
        }

    -- read as it is, the world is at its end
    module _ (same : u.components ≡ v.components) where
      some_ended : 1 ≤ length plan.parts → IsPlayedOut plan v
      some_ended some =
          let B = come plan files handles w steps k v G in
          let W = ((((B.faulty).taken).played).play) in
          let O = plan_over plan B.recent B.now u R.valid W (over_told some) in
          record {
            ended = record { many = many_now plan files handles w steps k v G; joined = parted_in (ends_of plan) (length plan.joints) u v same refl (B.faulty).sound (O.ended).joined };
            components = subst (λ (cs : List Component). All IsAtEnd cs) same O.components;
          }

  -- without components there is nothing
  none_ended : length plan.parts ≡ 0 → IsPlayedOut plan v
  none_ended none =
      let B = come plan files handles w steps k v G in
      let W = ((((B.faulty).taken).played).play) in
      let many = many_now plan files handles w steps k v G in
      let nothing : v.components ≡ [] = no_component v.components (many ∙ none) in
      record {
        ended = record {
          many = many;
          joined = record {
            quiet = record {
              sound = (B.faulty).sound;
              headers = no_header v.headers refl;
              components = subst (λ (cs : List Component). All IsResting cs) (sym nothing) (All-nil IsResting);
              numbered = λ i a e. let b = slice_get_within v.components i a e in absurd (omega (arith, b, many, none));
            };
            inside = λ side l b. absurd (no_link l b);
            joined = λ side l a n b e. absurd (no_link l b);
            only = λ i port a s e f t. let b = slice_get_within v.components i a e in absurd (omega (arith, b, many, none));
          };
        };
        components = subst (λ (cs : List Component). All IsAtEnd cs) (sym nothing) (All-nil IsAtEnd);
      }
    where
      no_component : (cs : List Component) → length cs ≡ 0 → cs ≡ []
      no_component [] e = refl
      no_component (c ∷ cs) e = absurd (omega (arith, e))

      no_link : (l : ℕ) → l < length plan.joints → ⊥
      no_link l b = let K = link_is plan files handles w steps k v G l b in let g = K.giver_below in omega (arith, g, none)

      no_header : (hs : List HeaderRecord) → v.headers ≡ hs → v.headers ≡ []
      no_header [] e = e
      no_header (h ∷ hs) e =
          let f : find_header h.state.number v.headers ≡ Some h = ap (find_header h.state.number) e ∙ found_head h.state.number h hs refl in
          let H = ((((((come plan files handles w steps k v G).faulty).taken).played).play).headers h.state.number h f) in
          absurd (no_link H.link H.below)

  all_ended : ((place : ℕ) (c : Component) → slice_get v.components place ≡ Some c → count_by is_fault c.notes ≤ (if c.part.failed then 1 else 0)) → AreAllAt (tuned plan files) Loaded steps
      → All (λ (c : Component). c.client_out ≡ false) v.components → IsPlayedOut plan v
  all_ended N T In = elim (cases_lt 0 (length plan.parts)) [
    | inl some ↦ some_ended T (all_as_read v.components as_it_is) some
    | inr none ↦ none_ended (omega (arith, none))
  ]
    where
      as_it_is : (i : ℕ) (c : Component) → slice_get v.components i ≡ Some c → (c.part.failed ≡ false) × (count_by is_fault c.notes ≤ 0) × (c.client_out ≡ false)
      as_it_is i c e =
          let f = requested_none plan files R handles w S links [] steps A v r refl i c e in
          let n = N i c e in
          (f, subst (λ (b : Bool). count_by is_fault c.notes ≤ (if b then 1 else 0)) f n, at_place (λ (d : Component). d.client_out ≡ false) v.components i c In e)

  pub played_out : AreAllAt (tuned plan files) Loaded steps → All (λ (c : Component). c.client_out ≡ false) v.components → IsPlayedOut plan v
  played_out = all_ended ((come plan files handles w steps k v G).faulty).noted
