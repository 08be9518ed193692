-- What a call came to in the world of a play, and so what its turn leads to.
use Rattle.std.proofs.Common.{Option, ◌≡◌, ℕ, Bool, true, false, List, Ok, Err, Result, refl, sym, ◌∙◌, subst}
use Rattle.il_machine.specs.declared.answer.Acted.{Acted}
use Rattle.il_machine.specs.declared.answer.Acted.TheVariants.{Did, Idle}
use Rattle.il_machine.specs.declared.answer.Progress.{Progress}
use Rattle.il_machine.specs.World.{World}
use Rattle.il_machine.specs.Whole.{Stands}
use Rattle.std.specs.Prelude.{OnErr}
use Rattle.graph_core.specs.Entries.{Entries}
use Rattle.graph_core.specs.Clients.{KeepsAllClients}
use Rattle.audio_parts.specs.Objects.{Held}
use Rattle.audio_parts.specs.declared.part_file.PartFile.{PartFile}
use Rattle.il_graph.specs.Shown.{KeepsAllFiles, Shown, file_of}
use Rattle.il_graph.specs.Stood.{OnIdle}
use Rattle.play_model.specs.Play.{Play}
use Rattle.play_model.specs.Acts.{Act}
use Rattle.il_machine.specs.Acts as machine
use Rattle.play_loop.specs.Turns.{CanNone, SomePlay, Turned, TurnsOf}
use Rattle.play_log.specs.Kept.{LogValue}
use Rattle.play_turn_laws.specs.Playing.{IsPlayConducted}
use Rattle.play_turn_laws.specs.Turns.{PlayCame, is_did}
use Rattle.play_turn_laws.proofs.Playing.{turn_plays}
use Rattle.play_turn_laws.proofs.Turning.{turn_goes as play_turn_goes}
use Rattle.play_plan_laws.specs.Assemblies.{play_cast_of}
use Rattle.play_graph.specs.Graphs.{kept_of}
use Rattle.play_run.specs.Asking.{Asks}
use Rattle.play_run.specs.Playing.{AreClientsIn, AsksIn, HasParts, HaveNoWork, HasStreamsFrom, IsPlaying, IsStanding, LeadsOn, PlayingValue, ToldAlike, TurnsTo, FilesStay, unfailed, layout_of}
use Rattle.play_run.specs.Recording.{IsRecorded}
use Rattle.play_run.proofs.Streaming.{StreamsGo}

pub keeps_in : {C : Type 0} (g k : Entries C) → KeepsAllClients g k → AreClientsIn g → AreClientsIn k
keeps_in g k K In = λ h e. In h (sym (K h) ∙ e)

module _ {S K : Type 0} where
  -- with another graph and another log
  abbrev pub with_both : PlayingValue S K → Shown S K Progress → LogValue → PlayingValue S K
  with_both x g log = record x { graph = g; log = log }

  pub parts_of : (x : PlayingValue S K) (p : Play) → IsStanding x p → HasParts x
  parts_of x p Z = record { world = Z.world; stands = Z.stands; sound = ((Z.conducted).play).sound; valid = Z.valid; many = ((Z.conducted).play).many; clients = Z.clients }

  pub has_parts : (x : PlayingValue S K) → SomePlay (IsPlaying x) → HasParts x
  has_parts x (p, Y) = parts_of x p Y.standing

  -- what is known of a standing play in which a turn led to that world
  pub stands_then : (x : PlayingValue S K) (g : Shown S K Progress) (log : LogValue) (p q : Play) (recent : ℕ) (v : World) (Z : IsStanding x p) (left : List (machine.Act × machine.Reply)) → Stands (kept_of g) v → HaveNoWork v → AreClientsIn g.core → IsPlayConducted (play_cast_of x.plan) recent q v x.conductor
      → IsRecorded x.plan.parts Z.opening v log (Asks x.plan Z.files Z.opening recent x.conductor left) → HasStreamsFrom (play_cast_of x.plan) Z.opening q v → ToldAlike Z.opening v
      → (Y : IsStanding (with_both x g log) q) × (Y.files ≡ Z.files) × (Y.left ≡ left) × (Y.opening ≡ Z.opening)
  stands_then x g log p q recent v Z left st works clients L R F T = (
    record {
      world = v;
      stands = st;
      recent = recent;
      conducted = L;
      valid = Z.valid;
      works = works;
      clients = clients;
      files = Z.files;
      opening = Z.opening;
      begins = Z.begins;
      left = left;
      recorded = R;
      streams = F;
      told = T;
    },
    refl,
    refl,
    refl,
  )

  -- nothing was accepted, and nothing told
  still : (x : PlayingValue S K) (g : Shown S K Progress) (log : LogValue) (P : Act → Type 0) (p : Play) (Y : IsPlaying x p) → g ≡ x.graph → log ≡ x.log → CanNone (layout_of x.plan) p P
      → (q : Play) × (Z : IsPlaying (with_both x g log) q) × Turned (layout_of x.plan) p q false P × (Z.standing.files ≡ Y.standing.files)
  still x g log P p Y same silent none =
      let is : x ≡ with_both x g log = λ i. record x { graph = sym same i; log = sym silent i } in
      subst (λ (z : PlayingValue S K). (q : Play) × (Z : IsPlaying z q) × Turned (layout_of x.plan) p q false P × (Z.standing.files ≡ Y.standing.files)) is (p, Y, (refl, none), refl)

  pub turn_goes : (x : PlayingValue S K) (g : Shown S K Progress) (log : LogValue) (p : Play) (v : World) (did : Bool) (P : Act → Type 0) (Y : IsPlaying x p)
      → Stands (kept_of g) v → HaveNoWork v → AreClientsIn g.core → (did ≡ false → g ≡ x.graph) → (did ≡ false → log ≡ x.log) → (did ≡ true → IsRecorded x.plan.parts Y.standing.opening v log (AsksIn x p Y.standing))
      → (did ≡ true → StreamsGo (play_cast_of x.plan) p Y.standing.opening v) → (did ≡ true → ToldAlike Y.standing.opening v) → PlayCame (play_cast_of x.plan) Y.standing.recent p v did P
      → (q : Play) × (Z : IsPlaying (with_both x g log) q) × Turned (layout_of x.plan) p q did P × (Z.standing.files ≡ Y.standing.files)
  turn_goes x g log p v true P Y st works clients same silent R F T C =
      let y = play_cast_of x.plan in
      let Z = Y.standing in
      let t = play_turn_goes y Z.recent p C.0 Z.world v (Z.conducted).play (Z.conducted).waiting C.2 C.3 C.4 in
      let U = t.1 in
      let L = turn_plays y Z.recent p t.0 Z.world v x.conductor (record { standing = Z.conducted; sent = Y.sent; carried = Y.carried }) U in
      let S = stands_then x g log p t.0 Z.recent v Z Z.left st works clients L.standing (R refl) (F refl Z.recent t.0 U.play U.phase) (T refl) in
      (t.0, record { standing = S.0; whole = S.2 ∙ Y.whole; sent = L.sent; carried = L.carried }, (U.acted, U.rest), S.1)
  turn_goes x g log p v false P Y st works clients same silent R F T C = still x g log P p Y (same refl) (silent refl) C

  -- nothing was accepted
  pub turn_stays : (x : PlayingValue S K) (g : Shown S K Progress) (P : Act → Type 0) → g ≡ x.graph → ((p : Play) → IsPlaying x p → CanNone (layout_of x.plan) p P) → TurnsTo x (with_both x g x.log) false P
  turn_stays x g P same none = λ p Y. still x g x.log P p Y same refl (none p Y)

  -- ---- what a turn says to the loop

  pub turned_of : (x y : PlayingValue S K) (did : Bool) (P : Act → Type 0) → TurnsTo x y did P → TurnsOf (layout_of x.plan) (IsPlaying x) (IsPlaying y) did P
  turned_of x y did P T = λ p Y. let t = T p Y in (t.0, t.1, t.2)

  pub leads_of : (Stays : Held S K → Held S K → Type 0) (x y : PlayingValue S K) (did : Bool) (P : Act → Type 0) → y.plan ≡ x.plan → FilesStay Stays x y → TurnsTo x y did P → LeadsOn Stays x y
  leads_of Stays x y did P same objects T = record { plan = same; objects = objects; plays = λ p Y. let t = T p Y in (t.0, t.1, t.3) }

  -- nor where the graph is the same
  pub files_same : (Stays : Held S K → Held S K → Type 0) → ((a : Held S K) → Stays a a) → (y x : PlayingValue S K) → y ≡ x → (g : Shown S K Progress) (log : LogValue) → g ≡ y.graph → FilesStay Stays x (with_both y g log)
  files_same Stays itself y x is g log same = subst (λ (z : PlayingValue S K). FilesStay Stays z (with_both y g log)) is
      (λ n. subst (λ (k : Shown S K Progress). Stays (unfailed (file_of n y.graph)) (unfailed (file_of n k))) (sym same) (itself (unfailed (file_of n y.graph))))

  -- where no file object changes
  pub files_stay : (Stays : Held S K → Held S K → Type 0) → ((a : Held S K) → Stays a a) → (x y : PlayingValue S K) → KeepsAllFiles x.graph y.graph → FilesStay Stays x y
  files_stay Stays itself x y keeps = λ n. subst (λ (file : Option (PartFile S K)). Stays (unfailed (file_of n x.graph)) (unfailed file)) (sym (keeps n)) (itself (unfailed (file_of n x.graph)))

-- ---- an answer

pub not_did : {E : Type 0} {P : Type 0} (r : Result Acted E) → OnErr r P → OnIdle r P → is_did r ≡ false → P
not_did (Ok Did) e i f = absurd cc
not_did (Ok (Idle why)) e i f = i
not_did (Err x) e i f = e

pub is_ok : {E : Type 0} (r : Result Acted E) → is_did r ≡ true → r ≡ Ok Did
is_ok (Ok Did) t = refl
is_ok (Ok (Idle why)) t = absurd cc
is_ok (Err x) t = absurd cc
