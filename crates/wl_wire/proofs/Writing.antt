-- What the writer answers, by what the arguments of the message take.
use Rattle.std.proofs.Common.{◌≡◌, ◌↔◌, ℕ, ◌<◌, ◌≤◌, List, length, Result, Ok, Err, refl, arith}
use Rattle.wl_wire.specs.declared.argument.Argument.{Argument}
use Rattle.wl_wire.specs.declared.argument.Token.{Token}
use Rattle.wl_wire.specs.declared.error.MessageWriteError.{MessageWriteError}
use Rattle.wl_wire.specs.declared.error.MessageWriteError.TheVariants as errors
use Rattle.wl_wire.specs.declared.message.Message.{Message}
use Rattle.wl_wire.specs.MapIds.{numbered}
use Rattle.wl_wire.specs.Message.{size}
use Rattle.wl_wire.specs.Inside.Buffer.{bytes_of}
use Rattle.wl_wire.proofs.Pieces.{size-numbered}

-- which errors they are that the bytes decide
pub record BytesDecide (n : ℕ) (old : List ℕ) (result : Result ℕ MessageWriteError) : Type 0 where
  pub too_long : (result ≡ Err errors.TooLong) ↔ (65535 < n)
  pub too_small : (result ≡ Err errors.BufferTooSmall) ↔ ((n ≤ 65535) × (length old < n))

module _ {Id : Type 0} (object_number new_number : Id → ℕ) (m : Message Id Token) (args : List (Argument Id Token)) (same : args ≡ m.args.items) (old : List ℕ) where
  size-is : size (numbered object_number new_number m) ≡ bytes_of args
  size-is = size-numbered object_number new_number m args same

  pub long-decides : 65535 < bytes_of args → BytesDecide (size (numbered object_number new_number m)) old (Err errors.TooLong)
  long-decides long = record {
    too_long = (λ _. omega (arith, size-is, long), λ _. refl);
    too_small = (λ e. absurd cc, λ p. absurd (omega (arith, size-is, p.0, long)));
  }

  module _ (bytes : ℕ) (is : bytes ≡ bytes_of args) (small : bytes ≤ 65535) where
    pub small-decides : length old < bytes → BytesDecide (size (numbered object_number new_number m)) old (Err errors.BufferTooSmall)
    small-decides lacks = record {
      too_long = (λ e. absurd cc, λ long. absurd (omega (arith, size-is, is, long, small)));
      too_small = (λ _. (omega (arith, size-is, is, small), omega (arith, size-is, is, lacks)), λ _. refl);
    }

    module _ (room : bytes ≤ length old) where
      pub memory-decides : BytesDecide (size (numbered object_number new_number m)) old (Err errors.OutOfMemory)
      memory-decides = record {
        too_long = (λ e. absurd cc, λ long. absurd (omega (arith, size-is, is, long, small)));
        too_small = (λ e. absurd cc, λ p. absurd (omega (arith, size-is, is, p.1, room)));
      }

      pub written-decides : BytesDecide (size (numbered object_number new_number m)) old (Ok bytes)
      written-decides = record {
        too_long = (λ e. absurd cc, λ long. absurd (omega (arith, size-is, is, long, small)));
        too_small = (λ e. absurd cc, λ p. absurd (omega (arith, size-is, is, p.1, room)));
      }
