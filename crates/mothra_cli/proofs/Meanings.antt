-- What is read of the words that a command line takes is what they mean.
use Rattle.mothra_cli.proofs.Common.{◌≡◌, ap, ◌∙◌, None, Some, List, Option, [], subst, Err, Ok, IsSome, inl, refl, Text, fault_of, CommandLine, AsksFor, IsFaultOf}
use Rattle.mothra_cli.proofs.Common.{Meaning, bad_operators, meaning_of, refused, request, request_in}
use Rattle.mothra_cli.specs.code.{ReadsRequest}
use Rattle.mothra_cli.specs.declared.request.WordsFault.{WordsFault}
use Rattle.mothra_cli.specs.declared.request.WordsFault.TheVariants.{Refused, BadOperatorList}

-- a request whose numbers are within bounds, or a bad list of operators
abbrev pub IsAccepted : {Q : Type 0} → CommandLine Q → Meaning Q → Type 0
IsAccepted line refused = ⊥
IsAccepted line bad_operators = Unit {0}
IsAccepted line (request r) = line.IsBounded r

pub some_request : {Q : Type 0} (line : CommandLine Q) (meaning : Meaning Q) (o : Option Q) → IsAccepted line meaning → ReadsRequest meaning (Ok o) → IsSome o
some_request line meaning (Some r) accepted reads = refl
some_request line meaning None accepted reads = absurd (subst (IsAccepted line) reads accepted)

module _ {Q : Type 0} (line : CommandLine Q) (words : List Text) (meaning : Meaning Q) (taken : fault_of line.app words ≡ []) (is : line.meaning words ≡ meaning) where
  meant : meaning_of line words ≡ meaning
  unfolding meaning_of
  meant = rw taken is

  pub asks : IsAccepted line meaning → (r : Q) (o : Option Q) → o ≡ Some r → ReadsRequest meaning (Ok o) → AsksFor line words r
  asks accepted r o some reads =
      let own : meaning ≡ request r = subst (λ x. ReadsRequest meaning (Ok x)) some reads in
      record { is = ap request_in (meant ∙ own); bounded = subst (IsAccepted line) own accepted }

  pub is_fault : (fault : WordsFault) → ReadsRequest meaning (Err fault) → IsFaultOf line words fault
  is_fault (Refused error) reads = inl reads
  is_fault BadOperatorList reads = meant ∙ reads
