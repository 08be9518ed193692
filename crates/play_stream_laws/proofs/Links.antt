-- Headers of one link, by their numbers: each has whole frames.
use Rattle.std.proofs.Common.{◌≡◌, ℕ, ◌*◌, ◌/◌, List, [], ◌∷◌, ◌++◌, length, Option, Some, refl, sym, subst}
use Rattle.il_machine.specs.World.{HeaderRecord, Load}
use Rattle.il_machine.specs.Headers.{find_header, load_at}
use Rattle.play_world_laws.specs.Cast.{Cast}
use Rattle.play_world_laws.specs.Worlds.{IsWholeHeader}
use Rattle.play_stream_laws.specs.Flowing.{content_of}
use Rattle.play_stream_laws.proofs.Listing.{AreWholeFrames}

-- the number is that of a header of the link
pub record IsOf (x : Cast) (l : ℕ) (hs : List HeaderRecord) (n : ℕ) : Type 0 where
  pub header : HeaderRecord
  pub found : find_header n hs ≡ Some header
  pub whole : IsWholeHeader x l header

abbrev pub AreOf : Cast → ℕ → List HeaderRecord → List ℕ → Type 0
AreOf x l hs [] = Unit {0}
AreOf x l hs (n ∷ ns) = IsOf x l hs n × AreOf x l hs ns

pub of_append : (x : Cast) (l : ℕ) (hs : List HeaderRecord) (ms ns : List ℕ) → AreOf x l hs ms → AreOf x l hs ns → AreOf x l hs (ms ++ ns)
of_append x l hs [] ns a b = b
of_append x l hs (m ∷ ms) ns a b = (a.0, of_append x l hs ms ns a.1 b)

pub of_frames : (x : Cast) (l : ℕ) (hs : List HeaderRecord) (ns : List ℕ) → AreOf x l hs ns → AreWholeFrames (x.unit l) hs ns
of_frames x l hs [] a = tt
of_frames x l hs (n ∷ ns) a =
    let load : load_at n hs ≡ Some ((a.0).header).load = rw (a.0).found refl in
    (subst (λ (o : Option Load). length (content_of o) / x.unit l * x.unit l ≡ length (content_of o)) (sym load) ((a.0).whole).frames, of_frames x l hs ns a.1)
