-- A log without a line leads from the opening world to itself, where no file was written.
use Rattle.std.proofs.Common.{◌≡◌, inl, ℕ, ◌+◌, ◌<◌, true, List, [], ◌∷◌, length, Option, Some, None, refl, sym, ap, ◌∙◌, subst, codes, arith}
use Rattle.std.proofs.lemmas.List.{length-map}
use Rattle.std.proofs.lemmas.List.Elements.{All-nil}
use Rattle.std.proofs.lemmas.Option.{slice_get_within}
use Rattle.outside_io.specs.Files.{Outside}
use Rattle.il_machine.specs.Files.{Offered}
use Rattle.il_machine.specs.World.{Stream, World, number_of, stream_of}
use Rattle.machine_laws.proofs.Keys.{at_there}
use Rattle.play_build_laws.specs.Assembly.{Assembly}
use Rattle.play_build_laws.specs.Stages.{file_by, stream_by}
use Rattle.play_build_laws.proofs.Filing.{stream_component}
use Rattle.play_build_laws.proofs.Places.{stream_found}
use Rattle.play_forms.specs.Plans.{PlanValue}
use Rattle.play_plan_laws.specs.Assemblies.{PlayFiles, assembly_of}
use Rattle.play_log.specs.Entries.{Entry}
use Rattle.play_log.specs.Lines.{LogLine, IsLogLine, HasLines}
use Rattle.play_log.specs.Naming.{NameAll}
use Rattle.play_log.specs.Scenes.{Scene, scene_of}
use Rattle.play_log.proofs.TextLines.{one_list}
use Rattle.play_result_laws.specs.Files.{IsWriter}
use Rattle.play_result_laws.specs.Results.{IsLogOf}
use Rattle.play_result_laws.specs.Worlds.{HasWritten, IsOpening}

no_lines : (lines : List LogLine) → HasLines (codes "end\n") lines → lines ≡ []
no_lines lines H = one_list (codes "end\n") lines [] (omega arith) H (record { canonical = All-nil IsLogLine; whole = inl refl })

nothing_named : (s : Scene) (w : World) (entries : List Entry) (v : World) → NameAll s w [] entries v → v ≡ w
nothing_named s w [] v N = N
nothing_named s w (entry ∷ entries) v N = absurd N

unwritten : (o : Option Offered) (place : ℕ) → (stream_by o place).written ≡ []
unwritten None place = refl
unwritten (Some file) place = refl

opening_stream : (plan : PlanValue) (files : PlayFiles) (w : World) (place : ℕ) → place < length plan.parts → IsOpening plan files w
    → stream_of place w ≡ Some (stream_by (file_by (assembly_of plan files) true place) place)
opening_stream plan files w place below O =
    let s : Assembly = assembly_of plan files in
    let S = (O.1).sound in
    let V = (O.1).built in
    let many : length w.streams ≡ length plan.parts =
    sym (length-map w.streams (λ (y : Stream). y.component)) ∙ (ap length S.streams ∙ (length-map w.components number_of ∙ V.many)) in
    let found = stream_found w.streams 0 place (λ k st f.
    let l = slice_get_within w.streams k st f in
    let z : Some st ≡ Some (stream_by (file_by s true k) k) = sym f ∙ V.streams k (omega arith) in
    let is : st ≡ stream_by (file_by s true k) k = cc in
    ap (λ (y : Stream). y.component) is ∙ (stream_component (file_by s true k) k ∙ (let o : k ≡ 0 + k = omega arith in o)))
    in
    ap (λ (n : ℕ). stream_of n w) (let o : place ≡ 0 + place = omega arith in o) ∙ (found ∙ V.streams place below)

pub no_acts : (workers : ℕ) (plan : PlanValue) (files : PlayFiles) (new : Outside) (place byte : ℕ) (name bytes : List ℕ) → IsWriter plan.parts place name → new.file name ≡ Some (byte ∷ bytes) → IsLogOf workers plan files new (codes "end\n") → ⊥
no_acts workers plan files new place byte name bytes writer held L =
    let M = L.log in
    let N = M.names in
    let lines = no_lines N.lines N.has_lines in
    let none : NameAll (scene_of plan.parts M.opening) M.opening [] M.entries L.ending =
    subst (λ (l : List LogLine). NameAll (scene_of plan.parts M.opening) M.opening l M.entries L.ending) lines N.name in
    let same : L.ending ≡ M.opening = nothing_named (scene_of plan.parts M.opening) M.opening M.entries L.ending none in
    let below = slice_get_within plan.parts place writer.0 writer.1 in
    let wrote : HasWritten M.opening place (byte ∷ bytes) =
    subst (λ (w : World). HasWritten w place (byte ∷ bytes)) same ((L.ends).sinks place name (byte ∷ bytes) writer held) in
    let stream = opening_stream plan files M.opening place below M.opens in
    let some = at_there (stream_of place M.opening) (λ s. s.written ≡ byte ∷ bytes) (stream_by (file_by (assembly_of plan files) true place) place) stream wrote in
    let empty : [] ≡ byte ∷ bytes = sym (unwritten (file_by (assembly_of plan files) true place) place) ∙ some in
    absurd cc
