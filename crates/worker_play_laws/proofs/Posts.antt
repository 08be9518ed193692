-- Along a run in which no component is made or freed each keeps its number and its kind, and its file what it told when it came.
use Rattle.std.proofs.Common.{◌≡◌, inl, inr, ℕ, Bool, true, false, All, List, [], ◌∷◌, map, slice_get, if◌then◌else◌, Option, Some, None, option_map, Result, refl, sym, ◌∙◌, ap}
use Rattle.std.proofs.lemmas.List.Elements.{All-head, All-tail}
use Rattle.std.proofs.lemmas.Simd.{map-map}
use Rattle.omx_types.specs.declared.error.OmxError.{OmxError}
use Rattle.omx_types.specs.declared.handle.Handle.{Handle}
use Rattle.omx_types.specs.declared.kind.Kind.{Kind}
use Rattle.il_machine.specs.declared.port.Port.{Port}
use Rattle.il_machine.specs.Acts.{Act, Reply}
use Rattle.il_machine.specs.Acts as acts
use Rattle.il_machine.specs.Answers.{plain}
use Rattle.il_machine.specs.Claims.{Claim, Claimed, Claims, claim_idle, with_work, work_of}
use Rattle.il_machine.specs.Finishing.{Finish, announced, announced_at, finished, finished_by, gone_through, stepped_back, with_landed}
use Rattle.il_machine.specs.Headers.{seen}
use Rattle.il_machine.specs.Look.{look}
use Rattle.il_machine.specs.Parts.{file_format}
use Rattle.il_machine.specs.Run.{Meets, Run, Step}
use Rattle.il_machine.specs.Settings.{same_format}
use Rattle.il_machine.specs.Sound.{Sound}
use Rattle.il_machine.specs.Stepping.{WorkDone}
use Rattle.il_machine.specs.World.{Component, Stream, Work, World, changed_at, is_stream_of, number_of, port_of, stream_of, with_component}
use Rattle.machine_laws.proofs.Finding.{either}
use Rattle.machine_laws.proofs.Keys.{none_or_some}
use Rattle.machine_laws.proofs.Steps.{hands_in, sound_step}
use Rattle.history_laws.proofs.WorkSteps.{back_of}
use Rattle.il_graph.proofs.PartsStay.{LeavesParts, PartOf, PartsStay, closes_stay, part_of, step_stays}
use Rattle.play_build_laws.proofs.Places.{from_mapped, mapped_at, mapped_set}
use Rattle.play_world_laws.proofs.Claims.{claims_none, claims_some}
use Rattle.read_world_laws.proofs.Calls.{named}
use Rattle.worker_play_laws.specs.Files.{is_steady}

-- what of a component no step changes
pub record Post : Type 0 where
  pub number : ℕ
  pub kind : Kind

abbrev pub post_of : Component → Post
post_of c = record { number = number_of c; kind = c.settings.kind }

-- and of a stream
pub record Label : Type 0 where
  pub component : ℕ
  pub known : Option (List ℕ)

abbrev pub label_of : Stream → Label
label_of s = record { component = s.component; known = s.known }

pub record PostsStay (w v : World) : Type 0 where
  pub posts : map post_of v.components ≡ map post_of w.components
  pub labels : map label_of v.streams ≡ map label_of w.streams

abbrev post_in : PartOf → Post
post_in p = record { number = p.number; kind = p.kind }

parts_stay : (w v : World) → PartsStay w v → PostsStay w v
parts_stay w v K = record { posts = sym (map-map post_in part_of v.components) ∙ (ap (map post_in) K.parts ∙ map-map post_in part_of w.components); labels = ap (map label_of) K.streams }

same_world : (w v : World) → v ≡ w → PostsStay w v
same_world w v e = record { posts = ap (λ (x : World). map post_of x.components) e; labels = ap (λ (x : World). map label_of x.streams) e }

posts_on : (w mid v : World) → PostsStay w mid → PostsStay mid v → PostsStay w v
posts_on w mid v K L = record { posts = L.posts ∙ K.posts; labels = L.labels ∙ K.labels }

-- ---- a claim

claimed_posts : (w v : World) (i : ℕ) (c : Component) (result : Result Claimed OmxError) → slice_get w.components i ≡ Some c → Claims (claim_idle (look w) c) i c w result v → PostsStay w v
claimed_posts w v i c result at s = elim (none_or_some (claim_idle (look w) c)) [
  | inr z ↦ same_world w v (claims_some (claim_idle (look w) c) z.0 i c w result v z.1 s).1
  | inl n ↦
      let work : Work = work_of (seen w.headers) c in
      let mid : World = with_work i c work w in
      posts_on w mid v (record { posts = mapped_set post_of w.components i c (record c { work = Some work }) at refl; labels = refl })
      (parts_stay mid v (closes_stay mid v (claims_none (claim_idle (look w) c) i c w result v n s).1))
]

claim_posts : (w v : World) (h : Handle) (result : Result Claimed OmxError) → Claim w h result v → PostsStay w v
claim_posts w v h result s = elim (named plain w h result v (λ i y. Claims (claim_idle (look w) y) i y w result v) s) [
  | inl e ↦ same_world w v e.1
  | inr (i, c, e, g, t) ↦ claimed_posts w v i c result g t
]

-- ---- a work that comes back

announced_post : (o : Option Port) (c : Component) → post_of (announced_at o c) ≡ post_of c
announced_post None c = refl
announced_post (Some p) c = either (same_format p.setting.definition.format (file_format c.file)) (λ t. rw t refl) (λ f. rw f refl)

gone_labels : (number : ℕ) (done : WorkDone) (ss : List Stream) → map label_of (map (λ s. if is_stream_of number s then gone_through done s else s) ss) ≡ map label_of ss
gone_labels number done [] = refl
gone_labels number done (s ∷ ss) =
    let one : label_of (if is_stream_of number s then gone_through done s else s) ≡ label_of s = either (is_stream_of number s) (λ t. rw t refl) (λ f. rw f refl) in
    let rest = gone_labels number done ss in
    λ i. one i ∷ rest i

module _ (w : World) (i : ℕ) (c : Component) (done : WorkDone) (at : slice_get w.components i ≡ Some c) where
  landed_posts : (o : Option Stream) → PostsStay w (changed_at o w (λ s. with_landed i c done s w))
  landed_posts None = same_world w w refl
  landed_posts (Some s) = record { posts = mapped_set post_of w.components i c (stepped_back c s done) at refl; labels = gone_labels (number_of c) done w.streams }

  back_posts : (announces : Bool) → PostsStay w (if announces then with_component i (announced c) w else changed_at (stream_of (number_of c) w) w (λ s. with_landed i c done s w))
  back_posts true = record { posts = mapped_set post_of w.components i c (announced c) at (announced_post (port_of c 0) (record c { work = None })); labels = refl }
  back_posts false = landed_posts (stream_of (number_of c) w)

  finished_posts : (o : Option Work) → PostsStay w (finished_by i c done o w)
  finished_posts None = same_world w w refl
  finished_posts (Some work) = back_posts work.announces

finish_posts : (w v : World) (done : WorkDone) → Meets w (acts.Finish done) → Finish w done v → PostsStay w v
finish_posts w v done M s =
    let (i, c, work, B, closes) = back_of w done v M s in
    let mid : World = finished i c done w in
    posts_on w mid v (finished_posts w i c done B.there c.work) (parts_stay mid v (closes_stay mid v closes))

-- ---- a step, and a run

module _ (w : World) (S : Sound w) (v : World) where
  stays : (a : Act) (r : Reply) → Meets w a → LeavesParts a r → Step w a r v → PostsStay w v
  stays a r M l s = parts_stay w v (step_stays w S a r v (hands_in w a M) l s)

  pub step_posts : (a : Act) (r : Reply) → is_steady a ≡ true → Meets w a → Step w a r v → PostsStay w v
  step_posts (acts.GetHandle name) r f M s = absurd cc
  step_posts (acts.FreeHandle h) r f M s = absurd cc
  step_posts (acts.Attach h file) r f M s = absurd cc
  step_posts (acts.Claim h) (acts.Claimed result) f M s = claim_posts w v h result s
  step_posts (acts.Finish done) acts.Finished f M s = finish_posts w v done M s
  step_posts a r f M s = stays a r M tt s

pub run_posts : (w v : World) (steps : List (Act × Reply)) → Sound w → All (λ (step : Act × Reply). is_steady step.0 ≡ true) steps → Run w steps v → PostsStay w v
run_posts w v [] S A e = same_world w v e
run_posts w v (step ∷ steps) S A (mid, M, s, rest) =
    posts_on w mid v (step_posts w S mid step.0 step.1 (All-head (λ (y : Act × Reply). is_steady y.0 ≡ true) step steps A) M s)
    (run_posts mid v steps (sound_step w mid step.0 step.1 M s S) (All-tail (λ (y : Act × Reply). is_steady y.0 ≡ true) step steps A) rest)

-- the component that stood there
pub was_there : (w v : World) → PostsStay w v → (i : ℕ) (d : Component) → slice_get v.components i ≡ Some d → (c : Component) × (slice_get w.components i ≡ Some c) × (post_of c ≡ post_of d)
was_there w v K i d at = from_mapped post_of w.components i (post_of d) (ap (λ (posts : List Post). slice_get posts i) (sym K.posts) ∙ (mapped_at post_of v.components i ∙ ap (option_map post_of) at))
