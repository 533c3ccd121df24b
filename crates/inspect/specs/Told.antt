-- What a search is told as: document 02, request 103.
use Rattle.std.specs.Prelude.{Result, Ok, Err}
use Rattle.semantics.specs.declared.CallRefusal.{CallRefusal}
use Rattle.semantics.specs.Operations.{Asked, denies, gives}
use Rattle.semantics.specs.Search.{Found}
use Rattle.semantics.specs.Answers.{refusal_number}
use Rattle.ahead.specs.Ahead.{found_of}
use Rattle.ahead.specs.declared.Searched.{Searched}

abbrev pub told : Result Searched CallRefusal → Asked Found
told (Err k) = denies (refusal_number k)
told (Ok s) = gives (found_of s)
