-- What a sink's file is to take in the whole play, and what is a front of it.
use Rattle.std.specs.Prelude.{◌≡◌, ℕ, List}
use Rattle.il_machine.specs.Stepping.{IsFrontOf}
use Rattle.il_machine.specs.World.{World}
use Rattle.play_world_laws.specs.Cast.{Cast, taker_of}
use Rattle.play_stream_laws.specs.Contents.{PlayContents}
use Rattle.play_stream_laws.specs.Streams.{EachSink, sunk_of}

-- all frames of the sink that the link leads into, where this is the link's whole stream
abbrev pub whole_text : Cast → PlayContents → ℕ → List ℕ → List ℕ
whole_text x k l stream = sunk_of (k.terms (taker_of x l)) (((x.layout).network).frames (taker_of x l)) stream

-- each sink's file has taken its whole text, or a front of it
abbrev pub AreWritten : Cast → PlayContents → World → (ℕ → List ℕ) → Type 0
AreWritten x k w stream = EachSink x w (λ l a s. s.written ≡ whole_text x k l (stream l))

abbrev pub AreFronts : Cast → PlayContents → World → (ℕ → List ℕ) → Type 0
AreFronts x k w stream = EachSink x w (λ l a s. IsFrontOf (whole_text x k l (stream l)) s.written)
