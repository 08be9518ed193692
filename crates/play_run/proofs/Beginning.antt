-- Where the graph of a plan stands before its play, the play begins.
use Rattle.std.proofs.Common.{◌≡◌, ◌<◌, ℕ, zero, suc, true, false, List, [], ◌∷◌, slice_get, All, Option, Some, None, refl, sym, ◌∙◌, ap, subst, arith}
use Rattle.std.specs.Prelude.{IsSomeAnd, option_and_then, slice_index_or}
use Rattle.std.proofs.lemmas.List.Elements.{All-head, All-nil, All-tail}
use Rattle.omx_types.specs.declared.handle.Handle.{Handle}
use Rattle.audio_parts.specs.declared.part_file.PartFile.{PartFile}
use Rattle.il_machine.specs.declared.answer.Progress.{Progress}
use Rattle.il_machine.specs.Files.{Offered}
use Rattle.il_machine.specs.Look.{look}
use Rattle.il_machine.specs.World.{Component, World, place_of}
use Rattle.graph_core.specs.Clients.{IsOut}
use Rattle.graph_core.specs.Entries.{client_named, look_of}
use Rattle.il_graph.specs.Shown.{Shown}
use Rattle.il_machine.specs.Due.{IsClosed}
use Rattle.il_machine.specs.Whole.{Always}
use Rattle.machine_laws.proofs.Every.{from_places}
use Rattle.conductor.specs.Casting as conductors
use Rattle.play_loop.specs.Turns.{CanPlay}
use Rattle.play_world_laws.specs.Cast.{components_of}
use Rattle.play_world_laws.specs.Openings.{opening}
use Rattle.play_forms.specs.Plans.{PlanValue}
use Rattle.play_plan_laws.specs.Casting.{place_of as place_of_turn}
use Rattle.play_turn_laws.proofs.Standing.{none_answered}
use Rattle.play_world_laws.proofs.StageHappening.{none_due}
use Rattle.play_turn_laws.specs.Playing.{IsBetweenTurns}
use Rattle.play_turn_laws.proofs.Beginning.{begins_playing as between_turns}
use Rattle.play_plan_laws.specs.Assemblies.{IsReady, PlayFiles, play_cast_of}
use Rattle.play_graph.specs.Making.{AreOffered, IsMadeOf}
use Rattle.play_log.specs.Logged.{Keeps}
use Rattle.play_log.specs.Scenes.{Scene, scene_of}
use Rattle.play_result_laws.specs.Asked.{tuned}
use Rattle.play_run.specs.Asking.{Asks, IsAsking, answered, handles_of}
use Rattle.play_run.specs.Closing.{HasBegun}
use Rattle.play_run.specs.Recording.{FreesNone, IsByPlayer, IsPrinted, IsRecorded, HasNotFailed}
use Rattle.play_graph.specs.Graphs.{kept_of}
use Rattle.play_run.specs.Playing.{HaveNoWork, IsPlaying, PlayingValue, cast, layout_of}
use Rattle.play_run.specs.Opening.{IsOpeningGraph}
use Rattle.play_run.proofs.Counting.{few_acts}
use Rattle.play_result_laws.proofs.ListFronts.{none_there}
use Rattle.play_run.proofs.Streaming.{OpensOn}

-- ---- the graph that was made

never_out : (w : World) (h : Handle) → ((i : ℕ) (a : Component) → slice_get w.components i ≡ Some a → a.client_out ≡ false) → IsOut h (look w) → ⊥
never_out w h each O = by_place (place_of h w.components) O
  where
    at_place : (i : ℕ) (o : Option Component) → slice_get w.components i ≡ o → IsSomeAnd o (λ (c : Component). c.client_out ≡ true) → ⊥
    at_place i None e t = t
    at_place i (Some c) e t = let z : false ≡ true = sym (each i c e) ∙ t in absurd cc

    by_place : (o : Option ℕ) → IsSomeAnd (option_and_then (slice_get w.components) o) (λ (c : Component). c.client_out ≡ true) → ⊥
    by_place None t = t
    by_place (Some i) t = at_place i (slice_get w.components i) refl t

pub opens_so : {S K : Type 0} (plan : PlanValue) (offered_by : PartFile S K → Offered) (entries : List (Option (PartFile S K))) (g : Shown S K Progress) → IsMadeOf plan offered_by entries g → ((h : Handle) → client_named h g.core ≡ Some None → IsOut h (look_of g.core))
    → (files : PlayFiles) → IsReady plan files → AreOffered plan files offered_by entries → IsOpeningGraph plan files g
opens_so plan offered_by entries g M out files ready offered =
    let A = M files ready offered in
    record {
      world = A.world;
      stands = A.stands;
      begins = (A.handles, A.built);
      ready = A.ready;
      clients = λ h e. never_out A.world h (λ i a f. ap (λ (y : Component). y.client_out) (A.built.built.components.each i a f).fresh_else) (subst (IsOut h) (sym A.stands.looks) (out h e));
    }

words_small : (xs : List ℕ) → All (λ (n : ℕ). n < 18446744073709551616) xs → (i : ℕ) → slice_index_or xs i 0 < 18446744073709551616
words_small [] A i = omega arith
words_small (x ∷ xs) A zero = All-head (λ (n : ℕ). n < 18446744073709551616) x xs A
words_small (x ∷ xs) A (suc i) = words_small xs (All-tail (λ (n : ℕ). n < 18446744073709551616) x xs A) i

pub frames_small : (plan : PlanValue) → All (λ (n : ℕ). n < 18446744073709551616) plan.frames → (c : ℕ) → c < components_of (cast plan) → ((layout_of plan).network).frames c < 18446744073709551616
frames_small plan A c b = words_small plan.frames A (place_of_turn plan c)

module _ {S K : Type 0} (x : PlayingValue S K) (files : PlayFiles) (O : IsOpeningGraph x.plan files x.graph) (new : x.conductor ≡ conductors.cast_of x.plan) (closed : Always (kept_of x.graph) IsClosed) (empty : (s : Scene) → Keeps s [] x.log) (opens : OpensOn (play_cast_of x.plan)) where
  -- no change was begun: whichever link is called the one that was begun last
  late : IsBetweenTurns (play_cast_of x.plan) 0 opening O.world x.conductor
  late = subst (IsBetweenTurns (play_cast_of x.plan) 0 opening O.world) (sym new) (between_turns x.plan files (O.begins).0 0 O.world O.ready (O.begins).1)

  no_works : HaveNoWork O.world
  no_works = from_places (λ (a : Component). a.work ≡ None) O.world.components (λ place a e. ap (λ (d : Component). d.work) ((O.begins).1.built.components.each place a e).fresh_else)

  -- nothing is asked yet
  nothing_asked : Asks x.plan files O.world 0 x.conductor [] []
  nothing_asked = record {
    changes = [];
    are = record {
      links = [];
      rest = [];
      begun = λ i l entry e L. (let z = none_answered entry.steps 0 (late.carried i l entry e L) (omega arith) in rw z refl);
      only = λ l b. absurd (omega (arith, b));
      parts = refl;
      last = λ front l i entry e f L. absurd (none_there front [] l e);
    };
    early = λ b. refl;
    asking = subst (λ (n : ℕ). IsAsking (tuned x.plan files) (handles_of O.world) (answered n []) [] []) (sym ((late.standing).conducting).sends)
        (record { made = refl; timely = λ k one next before after step a b e t h. absurd (none_there before after step e); now = λ b. absurd (omega (arith, b)); last = λ b. absurd (omega (arith, b)) });
  }

  nothing_recorded : IsRecorded x.plan.parts O.world O.world x.log (Asks x.plan files O.world 0 x.conductor [])
  nothing_recorded = record { history = []; runs = refl; alone = All-nil IsByPlayer; whole = All-nil HasNotFailed; stay = All-nil FreesNone; printed = All-nil IsPrinted; asks = nothing_asked; keeps = empty (scene_of x.plan.parts O.world) }

  begins_playing : (Y : IsPlaying x opening) × (Y.standing.files ≡ files) × (Y.standing.world ≡ O.world)
  begins_playing = (
    record {
      standing = record {
        world = O.world;
        stands = O.stands;
        recent = 0;
        conducted = late.standing;
        valid = (O.ready).valid;
        works = no_works;
        clients = O.clients;
        files = files;
        opening = O.world;
        begins = record { opens = O.begins; closed = closed O.world O.stands };
        left = [];
        recorded = nothing_recorded;
        streams = opens 0 opening O.world (late.standing).play (omega arith);
        told = λ n t q. (t, q, refl);
      };
      whole = refl;
      sent = late.sent;
      carried = late.carried;
    },
    refl,
    refl,
  )

  pub has_begun : HasBegun x files
  has_begun = (opening, begins_playing.0, begins_playing.1)

  pub can_play : ((c : ℕ) → c < components_of (cast x.plan) → ((layout_of x.plan).network).frames c < 18446744073709551616) → CanPlay (layout_of x.plan) (IsPlaying x) 340282366920938463463374607431768211455
  can_play frames =
      let Y : IsPlaying x opening = begins_playing.0 in
      let Z = Y.standing in
      let W = (Z.conducted).play in
      let C = W.cast_is in
      record {
        play = opening;
        stands = Y;
        going = record { reached = W.reached; rest = none_due (play_cast_of x.plan) Z.recent opening Z.world W (closed Z.world Z.stands) };
        few = few_acts x.plan (O.ready).valid.most C.few (λ l b. C.layout.network.count l b) frames;
      }
