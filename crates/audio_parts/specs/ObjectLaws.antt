-- What stays of the object of a part's file stays where nothing is done, and over two steps where it stays over each. What a fault shows
-- since one time it shows since an earlier one, and until a later one.
use Rattle.std.specs.Prelude.{◌≡◌, ℕ, ◌+◌, ◌-◌, ◌^◌, ◌≤◌, max, Bool, false, List, Option, None, Some, refl}
use Rattle.std.proofs.Common.{◌∙◌, subst}
use Rattle.std.proofs.Math.Nat.{le_refl, le_trans, le-max_left, le-max_right, max-le, min-le_left, min-le_right, le-min, add-le-add, le_antisymm}
use Rattle.omx_types.specs.declared.fault.PartFault.{PartFault}
use Rattle.omx_types.specs.declared.format.Format.{Format}
use Rattle.omx_types.specs.declared.fault.PartFault.TheVariants.{Read, Write, Short}
use Rattle.outside_io.specs.Stops.{GaveNothing}
use Rattle.outside_io.specs.Causes.{Rose}
use Rattle.outside_io.specs.Moves.{WhereTold}
use Rattle.audio_parts.specs.Causes.{HasReadCause}
use Rattle.audio_parts.specs.Objects.{BothOrNone, FileShows, FileStays, Held, ObjectShows, ObjectStays, OnBoth, SinkShows, SinkStays, SourceShows, SourceStays, StaysUnfailed}
use Rattle.audio_parts.specs.declared.part_file.PartFile.{PartFile}
use Rattle.audio_parts.specs.declared.part_file.PartFile.TheVariants.{From, To}

-- ---- relations on what may be absent

module _ {A : Type 0} (R : A → A → Type 0) where
  both_itself : ((a : A) → R a a) → (o : Option A) → BothOrNone R o o
  both_itself itself None = tt
  both_itself itself (Some a) = itself a

module _ {A : Type 0} (R Q P : A → A → Type 0) where
  both_further : ((a b c : A) → R a b → Q b c → P a c) → (o p q : Option A) → BothOrNone R o p → BothOrNone Q p q → BothOrNone P o q
  both_further further None None None h i = tt
  both_further further None None (Some c) h i = i
  both_further further None (Some b) q h i = absurd h
  both_further further (Some a) None q h i = absurd h
  both_further further (Some a) (Some b) None h i = i
  both_further further (Some a) (Some b) (Some c) h i = further a b c h i

  both_shown : ((a b c : A) → R a b → Q b c → P a c) → (o p q : Option A) → BothOrNone R o p → OnBoth Q p q → OnBoth P o q
  both_shown earlier o None q h i = absurd i
  both_shown earlier o (Some b) None h i = absurd i
  both_shown earlier None (Some b) (Some c) h i = absurd h
  both_shown earlier (Some a) (Some b) (Some c) h i = earlier a b c h i

  shown_both : ((a b c : A) → R a b → Q b c → P a c) → (o p q : Option A) → OnBoth R o p → BothOrNone Q p q → OnBoth P o q
  shown_both later None p q h i = absurd h
  shown_both later (Some a) None q h i = absurd h
  shown_both later (Some a) (Some b) None h i = absurd i
  shown_both later (Some a) (Some b) (Some c) h i = later a b c h i

-- ---- causes

pub rose_since : (before mid now : ℕ) → before ≤ mid → Rose mid now → Rose before now
rose_since before mid now h r =
    le_trans (le-min (le_trans (min-le_left (before + 1) (2 ^ 64 - 1)) (add-le-add h (le_refl 1))) (min-le_right (before + 1) (2 ^ 64 - 1))) r

-- the end of a read that began further on, and not behind the end
same_end : (end start next : ℕ) → start ≤ next → next ≤ max end start → max end next ≡ max end start
same_end end start next l h = le_antisymm (max-le (le-max_left end start) h) (max-le (le-max_left end next) (le_trans l (le-max_right end next)))

-- a cause since a later step is one since an earlier
pub read_since : (size : ℕ) (ends : Option ℕ) (start next before mid now : ℕ) (fault : PartFault) → start ≤ next → WhereTold ends (λ end. next ≤ max end start) → before ≤ mid
    → HasReadCause size ends next mid now fault → HasReadCause size ends start before now fault
read_since size ends start next before mid now Read l stops r c = rose_since before mid now r c
read_since size ends start next before mid now Write l stops r c = c
read_since size ends start next before mid now (Short at told_size) l stops r c = record {
  whole = c.whole;
  below = c.below;
  started = le_trans l c.started;
  stopped = λ end told. c.stopped end told ∙ same_end end start next l (stops end told);
}

-- ---- sources

module _ {S : Type 0} (source_name : S → List ℕ) (size : S → ℕ) (told : S → Option (List ℕ)) (ends : S → Option ℕ) (offset faults : S → ℕ) where
  source_itself : (failed : Bool) (src : S) → SourceStays source_name size told ends offset faults failed src src
  source_itself failed src = record {
    name = refl;
    size = refl;
    told = refl;
    ends = refl;
    faults = le_refl (faults src);
    forward = λ unfailed. le_refl (offset src);
    stops = λ unfailed end is. le-max_right end (offset src);
  }

  source_further : (failed failed' : Bool) → StaysUnfailed failed failed' → (a b c : S) → SourceStays source_name size told ends offset faults failed a b
      → SourceStays source_name size told ends offset faults failed' b c → SourceStays source_name size told ends offset faults failed' a c
  source_further failed failed' stays a b c h i = record {
    name = i.name ∙ h.name;
    size = i.size ∙ h.size;
    told = i.told ∙ h.told;
    ends = i.ends ∙ h.ends;
    faults = le_trans h.faults i.faults;
    forward = λ unfailed. le_trans (h.forward (stays unfailed)) (i.forward unfailed);
    stops = λ unfailed end is. le_trans (i.stops unfailed end (h.ends ∙ is)) (max-le (le-max_left end (offset a)) (h.stops (stays unfailed) end is));
  }

  source_earlier : (failed : Bool) → failed ≡ false → (fault : PartFault) (a b c : S) → SourceStays source_name size told ends offset faults failed a b
      → SourceShows size ends offset faults fault b c → SourceShows size ends offset faults fault a c
  source_earlier failed unfailed fault a b c h i =
      read_since (size a) (ends a) (offset a) (offset b) (faults a) (faults b) (faults c) fault (h.forward unfailed) (h.stops unfailed) h.faults (rw (← h.size, ← h.ends) i)

  source_later : (failed : Bool) (fault : PartFault) (a b c : S) → SourceShows size ends offset faults fault a b
      → SourceStays source_name size told ends offset faults failed b c → SourceShows size ends offset faults fault a c
  source_later failed Read a b c h i = le_trans h i.faults
  source_later failed Write a b c h i = h
  source_later failed (Short at told_size) a b c h i = h

-- ---- sinks

module _ {K : Type 0} (name : K → List ℕ) (faults : K → ℕ) where
  sink_itself : (snk : K) → SinkStays name faults snk snk
  sink_itself snk = record { name = refl; faults = le_refl (faults snk) }

  sink_further : (a b c : K) → SinkStays name faults a b → SinkStays name faults b c → SinkStays name faults a c
  sink_further a b c h i = record { name = i.name ∙ h.name; faults = le_trans h.faults i.faults }

  sink_earlier : (fault : PartFault) (a b c : K) → SinkStays name faults a b → SinkShows faults fault b c → SinkShows faults fault a c
  sink_earlier Read a b c h i = i
  sink_earlier Write a b c h i = rose_since (faults a) (faults b) (faults c) h.faults i
  sink_earlier (Short at told_size) a b c h i = i

  sink_later : (fault : PartFault) (a b c : K) → SinkShows faults fault a b → SinkStays name faults b c → SinkShows faults fault a c
  sink_later Read a b c h i = h
  sink_later Write a b c h i = le_trans h i.faults
  sink_later (Short at told_size) a b c h i = h

-- ---- files

module _ {S K : Type 0} (source_name : S → List ℕ) (size : S → ℕ) (told : S → Option (List ℕ)) (ends : S → Option ℕ) (offset faults : S → ℕ) (name : K → List ℕ) (sink_faults : K → ℕ) where
  abbrev Stays : Bool → PartFile S K → PartFile S K → Type 0
  Stays failed = FileStays (SourceStays source_name size told ends offset faults failed) (SinkStays name sink_faults)

  abbrev Shows : PartFault → PartFile S K → PartFile S K → Type 0
  Shows fault = FileShows (SourceShows size ends offset faults fault) (SinkShows sink_faults fault)

  file_itself : (failed : Bool) (file : PartFile S K) → Stays failed file file
  file_itself failed (From src format frames) = (refl, refl, source_itself source_name size told ends offset faults failed src)
  file_itself failed (To snk frames) = (refl, sink_itself name sink_faults snk)

  file_further : (failed failed' : Bool) → StaysUnfailed failed failed' → (a b c : PartFile S K) → Stays failed a b → Stays failed' b c → Stays failed' a c
  file_further failed failed' stays (From a f n) (From b f' n') (From c f'' n'') h i =
      ((i.0 ∙ h.0), (i.1 ∙ h.1), source_further source_name size told ends offset faults failed failed' stays a b c h.2 i.2)
  file_further failed failed' stays (From a f n) (From b f' n') (To c n'') h i = i
  file_further failed failed' stays (From a f n) (To b n') c h i = absurd h
  file_further failed failed' stays (To a n) (From b f' n') c h i = absurd h
  file_further failed failed' stays (To a n) (To b n') (From c f'' n'') h i = i
  file_further failed failed' stays (To a n) (To b n') (To c n'') h i = ((i.0 ∙ h.0), sink_further name sink_faults a b c h.1 i.1)

  file_earlier : (failed : Bool) → failed ≡ false → (fault : PartFault) (a b c : PartFile S K) → Stays failed a b → Shows fault b c → Shows fault a c
  file_earlier failed unfailed fault (From a f n) (From b f' n') (From c f'' n'') h i = source_earlier source_name size told ends offset faults failed unfailed fault a b c h.2 i
  file_earlier failed unfailed fault (To a n) (To b n') (To c n'') h i = sink_earlier name sink_faults fault a b c h.1 i
  file_earlier failed unfailed fault (From a f n) (To b n') c h i = absurd h
  file_earlier failed unfailed fault (To a n) (From b f' n') c h i = absurd h
  file_earlier failed unfailed fault (From a f n) (From b f' n') (To c n'') h i = i
  file_earlier failed unfailed fault (To a n) (To b n') (From c f'' n'') h i = i

  file_later : (failed : Bool) (fault : PartFault) (a b c : PartFile S K) → Shows fault a b → Stays failed b c → Shows fault a c
  file_later failed fault (From a f n) (From b f' n') (From c f'' n'') h i = source_later source_name size told ends offset faults failed fault a b c h i.2
  file_later failed fault (To a n) (To b n') (To c n'') h i = sink_later name sink_faults fault a b c h i.1
  file_later failed fault (From a f n) (To b n') c h i = absurd h
  file_later failed fault (To a n) (From b f' n') c h i = absurd h
  file_later failed fault (From a f n) (From b f' n') (To c n'') h i = i
  file_later failed fault (To a n) (To b n') (From c f'' n'') h i = i

  -- ---- what a part holds

  pub object_itself : (o : Held S K) → ObjectStays source_name size told ends offset faults name sink_faults o o
  object_itself o = ((λ unfailed. unfailed), both_itself (Stays o.failed) (file_itself o.failed) o.file)

  pub object_further : (o p q : Held S K) → ObjectStays source_name size told ends offset faults name sink_faults o p → ObjectStays source_name size told ends offset faults name sink_faults p q
      → ObjectStays source_name size told ends offset faults name sink_faults o q
  object_further o p q h i =
      ((λ unfailed. h.0 (i.0 unfailed)), both_further (Stays p.failed) (Stays q.failed) (Stays q.failed) (file_further p.failed q.failed i.0) o.file p.file q.file h.1 i.1)

  -- what a fault shows since a step it shows since any earlier time
  pub shows_earlier : (fault : PartFault) (o p q : Held S K) → ObjectStays source_name size told ends offset faults name sink_faults o p
      → ObjectShows size ends offset faults sink_faults fault p q → ObjectShows size ends offset faults sink_faults fault o q
  shows_earlier fault o p q h i = (h.0 i.0, both_shown (Stays p.failed) (Shows fault) (Shows fault) (file_earlier p.failed i.0 fault) o.file p.file q.file h.1 i.1)

  -- and until any later time
  pub shows_later : (fault : PartFault) (o p q : Held S K) → ObjectShows size ends offset faults sink_faults fault o p
      → ObjectStays source_name size told ends offset faults name sink_faults p q → ObjectShows size ends offset faults sink_faults fault o q
  shows_later fault o p q h i = (h.0, shown_both (Shows fault) (Stays q.failed) (Shows fault) (file_later q.failed fault) o.file p.file q.file h.1 i.1)

  short_since : (at told_size frames : ℕ) (src : S) (format : Format) (o : Option (PartFile S K)) → OnBoth (Shows (Short at told_size)) (Some (From src format frames)) o
      → GaveNothing (size src) (ends src) (offset src) at told_size
  short_since at told_size frames src format (Some (From now format' frames')) h = h
  short_since at told_size frames src format (Some (To now frames')) h = absurd h
  short_since at told_size frames src format None h = absurd h

  -- the source of a step that found it short gave nothing there, read from where it stood when it came
  pub short_from_opening : (at told_size frames : ℕ) (src : S) (format : Format) (opened before now : Held S K) → opened.file ≡ Some (From src format frames)
      → ObjectStays source_name size told ends offset faults name sink_faults opened before → ObjectShows size ends offset faults sink_faults (Short at told_size) before now
      → GaveNothing (size src) (ends src) (offset src) at told_size
  short_from_opening at told_size frames src format opened before now is h i =
      short_since at told_size frames src format now.file
      (subst (λ o. OnBoth (Shows (Short at told_size)) o now.file) is (shows_earlier (Short at told_size) opened before now h i).1)
