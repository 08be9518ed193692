-- The log of a play names one list of acts.
use Rattle.std.proofs.Common.{◌≡◌, ◌≢◌, ℕ, ◌^◌, ◌<◌, true, List, [], length, slice_get, Option, Some, None, option_map, refl, sym, ap, ◌∙◌, subst, arith}
use Rattle.std.proofs.lemmas.List.{length-map}
use Rattle.std.proofs.lemmas.Option.{slice_get_within}
use Rattle.outside_io.specs.Files.{Outside}
use Rattle.il_machine.specs.World.{Stream, World, number_of}
use Rattle.wav_form.specs.declared.heads.WavHead.{WavHead}
use Rattle.script_lang.specs.declared.play_line.PartForm.{PartForm}
use Rattle.script_lang.specs.declared.play_line.PartForm.TheVariants as forms
use Rattle.script_lang.specs.declared.play_line.PartLine.{PartLine}
use Rattle.machine_laws.proofs.Every.{from_places}
use Rattle.play_build_laws.specs.Assembly.{Assembly}
use Rattle.play_build_laws.specs.Stages.{file_by, stream_by}
use Rattle.play_build_laws.proofs.Places.{get_there}
use Rattle.play_forms.specs.Parts.{kind_of}
use Rattle.play_forms.specs.Plans.{PlanValue}
use Rattle.play_plan_laws.specs.Assemblies.{PlayFiles, assembly_of, file_of}
use Rattle.play_log.specs.Entries.{Entry}
use Rattle.play_log.specs.Naming.{AreTelling, IsNaming, IsTelling}
use Rattle.play_log.specs.Scenes.{HaveOwnNames, scene_of}
use Rattle.play_log.proofs.Names.{one_naming}
use Rattle.play_log.proofs.Players.{some_same}
use Rattle.play_result_laws.specs.Files.{AreFiles, read_by, written_by}
use Rattle.play_result_laws.specs.Results.{IsPlanIn}
use Rattle.play_result_laws.specs.Worlds.{IsOpening}
use Rattle.play_result_laws.proofs.OwnNames.{own_names}

mapped_tells : (f : List ℕ → List ℕ) (known : Option (List ℕ)) → known ≢ None → option_map f known ≢ None
mapped_tells f None n e = n e
mapped_tells f (Some bytes) n e = absurd cc

-- a stream whose file is one that is told, or that has none
form_tells : (form : PartForm) (head : Option WavHead) (frames there place : ℕ) (known : Option (List ℕ)) → ((name : List ℕ) → read_by form ≡ Some name → known ≢ None) → ((name : List ℕ) → written_by form ≡ Some name → known ≢ None)
    → IsTelling (stream_by (file_of (kind_of form) head frames there known) place)
form_tells (forms.Source file) None frames there place known R W e = absurd cc
form_tells (forms.Source file) (Some head) frames there place known R W e = mapped_tells _ known (R file refl) e
form_tells (forms.Late file) None frames there place known R W e = absurd cc
form_tells (forms.Late file) (Some head) frames there place known R W e = mapped_tells _ known (R file refl) e
form_tells forms.Decoder head frames there place known R W e = absurd cc
form_tells forms.Alaw head frames there place known R W e = absurd cc
form_tells forms.Mulaw head frames there place known R W e = absurd cc
form_tells (forms.Gain gain) head frames there place known R W e = absurd cc
form_tells (forms.Mixer weights) head frames there place known R W e = absurd cc
form_tells (forms.Splitter outputs) head frames there place known R W e = absurd cc
form_tells (forms.Sink file) head frames there place known R W e = W file refl e

is_some : (known : Option (List ℕ)) (bytes : List ℕ) → known ≡ Some bytes → known ≢ None
is_some known bytes e n = absurd cc

place_tells : (old : Outside) (plan : PlanValue) (files : PlayFiles) (samples : List (List ℕ)) (place : ℕ) (part : PartLine) → AreFiles old plan.parts files samples → slice_get plan.parts place ≡ Some part
    → IsTelling (stream_by (file_by (assembly_of plan files) true place) place)
place_tells old plan files samples place part A e =
    rw e (form_tells part.form _ _ (files.there place) place (files.known place)
    (λ name r. is_some (files.known place) _ (A.sources place name (part, e, r)).known)
    (λ name r. is_some (files.known place) [] (A.sinks place name (part, e, r))))

pub opening_tells : (old : Outside) (plan : PlanValue) (files : PlayFiles) (samples : List (List ℕ)) (w : World) → AreFiles old plan.parts files samples → IsOpening plan files w → AreTelling w
opening_tells old plan files samples w A O =
    let s : Assembly = assembly_of plan files in
    let S = (O.1).sound in
    let V = (O.1).built in
    let many : length w.streams ≡ length plan.parts =
    sym (length-map w.streams (λ (y : Stream). y.component)) ∙ (ap length S.streams ∙ (length-map w.components number_of ∙ V.many)) in
    from_places IsTelling w.streams (λ k st f.
    let within = slice_get_within w.streams k st f in
    let part = get_there plan.parts k (omega arith) in
    let is : stream_by (file_by s true k) k ≡ st = some_same (stream_by (file_by s true k) k) st (sym (V.streams k (omega arith)) ∙ f) in
    subst IsTelling is (place_tells old plan files samples k part.0 A part.1))

pub one_log : (script log text : List ℕ) (old : Outside) (plan : PlanValue) (files : PlayFiles) (samples : List (List ℕ)) (opening v u : World) (entries others : List Entry) → IsPlanIn script log old plan files samples → IsOpening plan files opening → length text < 2 ^ 64
    → IsNaming (scene_of plan.parts opening) opening text entries v → IsNaming (scene_of plan.parts opening) opening text others u → (others ≡ entries) × (u ≡ v)
one_log script log text old plan files samples opening v u entries others P O fits N M =
    let own = own_names script log P.text P.read P.planned P.is_script P.is_plan in
    one_naming (scene_of plan.parts opening) opening v u text entries others (subst HaveOwnNames (sym (P.fitted).parts) own) (O.1).sound
    (opening_tells old plan files samples opening P.files_are O) fits N M
