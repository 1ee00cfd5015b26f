-- What contracts see of a request.
use Rattle.input_rules.specs.declared.requests.LineInput.{LineInput}
use Rattle.input_rules.specs.declared.requests.Request.{Request}
use Rattle.input_rules.specs.declared.requests.Request.TheVariants.{Input, Release, ReleaseOf, Certificate, Sync}
use Rattle.input_rules.specs.Requests.{SpelledInput, Asked, input, release, release_of, certificate_of, sync}

-- an input as a line spells it
abbrev pub input_view : LineInput → SpelledInput
input_view i = record { kind = i.kind; name = i.name.now; period = i.period; value = i.value }

-- what is asked for
abbrev pub request_view : Request → Asked
request_view (Input i) = input (input_view i)
request_view Release = release
request_view (ReleaseOf name) = release_of name.now
request_view (Certificate name) = certificate_of name.now
request_view Sync = sync
