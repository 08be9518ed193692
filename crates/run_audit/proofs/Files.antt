-- The files of a replay stay where works go out and come back.
use Rattle.std.proofs.Common.{◌≡◌, ◌≢◌, ◌≤◌, inl, inr, ℕ, Bool, true, false, List, Option, Some, None, max, nat_eq, slice_get, slice_set, refl, sym, ◌∙◌, ap, subst, arith, ne_eqb, eq-eqb}
use Rattle.std.proofs.lemmas.Bool.{cases_eq}
use Rattle.machine_laws.proofs.Every.{set_else, set_there}
use Rattle.audio_parts.specs.Objects.{BothOrNone, FileStays, SinkStays, SourceStays}
use Rattle.audio_parts.specs.Shown.{ShownPart}
use Rattle.audio_parts.specs.declared.part_file.PartFile.{PartFile}
use Rattle.audio_parts.specs.declared.part_file.PartFile.TheVariants as files
use Rattle.il_flow.specs.Works.{WorkOf}
use Rattle.compared_files.specs.Comparing.{ComparingValue}
use Rattle.graph_acts.specs.Objects.{with_at}
use Rattle.graph_acts.specs.Plain.{Sight}
use Rattle.run_audit.specs.declared.replay.Replay.{Replay}
use Rattle.run_audit.specs.Files.{FileGoesOn, FilesGoOn, file_at, file_with}

-- ---- what stays of an object

module _ {S : Type 0} (source_name : S → List ℕ) (size : S → ℕ) (told : S → Option (List ℕ)) (ends : S → Option ℕ) (offset faults : S → ℕ) where
  source_same : (failed : Bool) (src : S) → SourceStays source_name size told ends offset faults failed src src
  source_same failed src = record {
    name = refl;
    size = refl;
    told = refl;
    ends = refl;
    faults = omega arith;
    forward = λ e. omega arith;
    stops = λ e end told_so. omega arith;
  }

  source_then : (failed : Bool) (a b c : S) → SourceStays source_name size told ends offset faults false a b → SourceStays source_name size told ends offset faults failed b c → SourceStays source_name size told ends offset faults failed a c
  source_then failed a b c F G = record {
    name = G.name ∙ F.name;
    size = G.size ∙ F.size;
    told = G.told ∙ F.told;
    ends = G.ends ∙ F.ends;
    faults = let x = F.faults in let y = G.faults in omega arith;
    forward = λ e. (let x = F.forward refl in let y = G.forward e in omega arith);
    stops = λ e end told_so. (let x : offset b ≤ max end (offset a) = F.stops refl end told_so in let y : offset c ≤ max end (offset b) = G.stops e end (F.ends ∙ told_so) in omega arith);
  }

  source_fails : (failed : Bool) (a b : S) → SourceStays source_name size told ends offset faults failed a b → SourceStays source_name size told ends offset faults true a b
  source_fails failed a b F = record {
    name = F.name;
    size = F.size;
    told = F.told;
    ends = F.ends;
    faults = F.faults;
    forward = λ e. absurd cc;
    stops = λ e. absurd cc;
  }

  source_joins : (a b c : S) → SourceStays source_name size told ends offset faults true a b → SourceStays source_name size told ends offset faults true b c → SourceStays source_name size told ends offset faults true a c
  source_joins a b c F G = record {
    name = G.name ∙ F.name;
    size = G.size ∙ F.size;
    told = G.told ∙ F.told;
    ends = G.ends ∙ F.ends;
    faults = let x = F.faults in let y = G.faults in omega arith;
    forward = λ e. absurd cc;
    stops = λ e. absurd cc;
  }

module _ {K : Type 0} (name : K → List ℕ) (faults : K → ℕ) where
  sink_same : (snk : K) → SinkStays name faults snk snk
  sink_same snk = record { name = refl; faults = omega arith }

  sink_then : (a b c : K) → SinkStays name faults a b → SinkStays name faults b c → SinkStays name faults a c
  sink_then a b c F G = record { name = G.name ∙ F.name; faults = let x = F.faults in let y = G.faults in omega arith }

-- ---- of a file

module _ {S K : Type 0} where
  file_same : (source : S → S → Type 0) (sink : K → K → Type 0) → ((s : S) → source s s) → ((k : K) → sink k k) → (file : Option (PartFile S K)) → BothOrNone (FileStays source sink) file file
  file_same source sink f g None = tt
  file_same source sink f g (Some (files.From src format frames)) = (refl, refl, f src)
  file_same source sink f g (Some (files.To snk frames)) = (refl, g snk)

  file_map : (one other : S → S → Type 0) (sink : K → K → Type 0) → ((s t : S) → one s t → other s t) → (a b : Option (PartFile S K)) → BothOrNone (FileStays one sink) a b → BothOrNone (FileStays other sink) a b
  file_map one other sink f None None F = tt
  file_map one other sink f None (Some b) F = absurd F
  file_map one other sink f (Some a) None F = absurd F
  file_map one other sink f (Some (files.From s p m)) (Some (files.From t q n)) F = (F.0, F.1, f s t F.2)
  file_map one other sink f (Some (files.From s p m)) (Some (files.To t n)) F = absurd F
  file_map one other sink f (Some (files.To s m)) (Some (files.From t q n)) F = absurd F
  file_map one other sink f (Some (files.To s m)) (Some (files.To t n)) F = F

  file_then : (one other both : S → S → Type 0) (sink : K → K → Type 0) → ((a b c : S) → one a b → other b c → both a c) → ((a b c : K) → sink a b → sink b c → sink a c)
      → (a b c : Option (PartFile S K)) → BothOrNone (FileStays one sink) a b → BothOrNone (FileStays other sink) b c → BothOrNone (FileStays both sink) a c
  file_then one other both sink f g None None None F G = tt
  file_then one other both sink f g None None (Some c) F G = absurd G
  file_then one other both sink f g None (Some b) c F G = absurd F
  file_then one other both sink f g (Some a) None c F G = absurd F
  file_then one other both sink f g (Some a) (Some b) None F G = absurd G
  file_then one other both sink f g (Some (files.From s p m)) (Some (files.From t q n)) (Some (files.From u r o)) F G = (G.0 ∙ F.0, G.1 ∙ F.1, f s t u F.2 G.2)
  file_then one other both sink f g (Some (files.From s p m)) (Some (files.From t q n)) (Some (files.To u o)) F G = absurd G
  file_then one other both sink f g (Some (files.From s p m)) (Some (files.To t n)) (Some c) F G = absurd F
  file_then one other both sink f g (Some (files.To s m)) (Some (files.From t q n)) (Some c) F G = absurd F
  file_then one other both sink f g (Some (files.To s m)) (Some (files.To t n)) (Some (files.From u r o)) F G = absurd G
  file_then one other both sink f g (Some (files.To s m)) (Some (files.To t n)) (Some (files.To u o)) F G = (G.0 ∙ F.0, g s t u F.1 G.1)

-- ---- of all

module _ {S C : Type 0} (see : Sight S (ComparingValue S) C) where
  pub goes_same : (failed : Bool) (a b : Option (PartFile S (ComparingValue S))) → b ≡ a → FileGoesOn see failed a b
  goes_same failed a b e =
      subst (FileGoesOn see failed a) (sym e)
      (file_same (SourceStays see.reads.name see.reads.size see.reads.told see.reads.ends see.reads.offset see.reads.faults failed) (SinkStays see.writes.name see.writes.faults)
      (source_same see.reads.name see.reads.size see.reads.told see.reads.ends see.reads.offset see.reads.faults failed) (sink_same see.writes.name see.writes.faults) a)

  pub files_same : (failed : Bool) (old new : Replay S C) → ((place : ℕ) → file_at see new place ≡ file_at see old place) → FilesGoOn see failed old new
  files_same failed old new e place = goes_same failed (file_at see old place) (file_at see new place) (e place)

  pub files_fail : (failed : Bool) (old new : Replay S C) → FilesGoOn see failed old new → FilesGoOn see true old new
  files_fail failed old new F place =
      file_map (SourceStays see.reads.name see.reads.size see.reads.told see.reads.ends see.reads.offset see.reads.faults failed) (SourceStays see.reads.name see.reads.size see.reads.told see.reads.ends see.reads.offset see.reads.faults true)
      (SinkStays see.writes.name see.writes.faults) (source_fails see.reads.name see.reads.size see.reads.told see.reads.ends see.reads.offset see.reads.faults failed) (file_at see old place) (file_at see new place) (F place)

  pub files_then : (failed : Bool) (a b c : Replay S C) → FilesGoOn see false a b → FilesGoOn see failed b c → FilesGoOn see failed a c
  files_then failed a b c F G place =
      file_then (SourceStays see.reads.name see.reads.size see.reads.told see.reads.ends see.reads.offset see.reads.faults false) (SourceStays see.reads.name see.reads.size see.reads.told see.reads.ends see.reads.offset see.reads.faults failed)
      (SourceStays see.reads.name see.reads.size see.reads.told see.reads.ends see.reads.offset see.reads.faults failed) (SinkStays see.writes.name see.writes.faults)
      (source_then see.reads.name see.reads.size see.reads.told see.reads.ends see.reads.offset see.reads.faults failed) (sink_then see.writes.name see.writes.faults)
      (file_at see a place) (file_at see b place) (file_at see c place) (F place) (G place)

  pub files_join : (a b c : Replay S C) → FilesGoOn see true a b → FilesGoOn see true b c → FilesGoOn see true a c
  files_join a b c F G place =
      file_then (SourceStays see.reads.name see.reads.size see.reads.told see.reads.ends see.reads.offset see.reads.faults true) (SourceStays see.reads.name see.reads.size see.reads.told see.reads.ends see.reads.offset see.reads.faults true)
      (SourceStays see.reads.name see.reads.size see.reads.told see.reads.ends see.reads.offset see.reads.faults true) (SinkStays see.writes.name see.writes.faults)
      (source_joins see.reads.name see.reads.size see.reads.told see.reads.ends see.reads.offset see.reads.faults) (sink_then see.writes.name see.writes.faults)
      (file_at see a place) (file_at see b place) (file_at see c place) (F place) (G place)

-- ---- where they are

module _ {S K : Type 0} where
  elsewhere : (file : Option (PartFile S K)) (place j : ℕ) (at : ℕ → Option (PartFile S K)) → j ≢ place → with_at nat_eq (Some (place, file)) at j ≡ at j
  elsewhere file place j at n = let e = ne_eqb j place n in rw e refl

  there : (file : Option (PartFile S K)) (place : ℕ) (at : ℕ → Option (PartFile S K)) → with_at nat_eq (Some (place, file)) at place ≡ file
  there file place at = let e = eq-eqb place place refl in rw e refl

  -- a work goes out with the file that was there
  pub file_out : (works : List (Option (WorkOf (ShownPart S K)))) (place : ℕ) (work : WorkOf (ShownPart S K)) (old new : ℕ → Option (PartFile S K)) → slice_get works place ≡ Some None → (work.part).file ≡ old place
      → ((n : ℕ) → new n ≡ with_at nat_eq (Some (place, None)) old n) → (j : ℕ) → file_with (slice_get (slice_set works place (Some work)) j) (new j) ≡ file_with (slice_get works j) (old j)
  file_out works place work old new free file moves j = elim (cases_eq j place) [
    | inl e ↦
        let now : slice_get (slice_set works place (Some work)) j ≡ Some (Some work) = ap (slice_get (slice_set works place (Some work))) e ∙ set_there works place None (Some work) free in
        let was : slice_get works j ≡ Some None = ap (slice_get works) e ∙ free in
        ap (λ (o : Option (Option (WorkOf (ShownPart S K)))). file_with o (new j)) now ∙ (file ∙ (ap old (sym e) ∙ sym (ap (λ (o : Option (Option (WorkOf (ShownPart S K)))). file_with o (old j)) was)))
    | inr n ↦
        ap (λ (o : Option (Option (WorkOf (ShownPart S K)))). file_with o (new j)) (set_else works place j (Some work) n)
        ∙ ap (file_with (slice_get works j)) (moves j ∙ elsewhere None place j old n)
  ]

  -- it comes back with this file
  module _ (works : List (Option (WorkOf (ShownPart S K)))) (place : ℕ) (work : WorkOf (ShownPart S K)) (held : slice_get works place ≡ Some (Some work)) (file : Option (PartFile S K)) (old new : ℕ → Option (PartFile S K)) (moves : (n : ℕ) → new n ≡ with_at nat_eq (Some (place, file)) old n) where
    pub back_was : file_with (slice_get works place) (old place) ≡ (work.part).file
    back_was = ap (λ (o : Option (Option (WorkOf (ShownPart S K)))). file_with o (old place)) held

    pub back_is : file_with (slice_get (slice_set works place None) place) (new place) ≡ file
    back_is = ap (λ (o : Option (Option (WorkOf (ShownPart S K)))). file_with o (new place)) (set_there works place (Some work) None held) ∙ (moves place ∙ there file place old)

    pub back_else : (j : ℕ) → j ≢ place → file_with (slice_get (slice_set works place None) j) (new j) ≡ file_with (slice_get works j) (old j)
    back_else j n =
        ap (λ (o : Option (Option (WorkOf (ShownPart S K)))). file_with o (new j)) (set_else works place j None n)
        ∙ ap (file_with (slice_get works j)) (moves j ∙ elsewhere file place j old n)
