use Rattle.nr_spec_typing.proofs.Differ.{text_apart}
use Rattle.nr_laws_typing.proofs.apart.neighbours_and_promises_differ.Goals as goal

pub returns-clause-addresses : goal.returns-clause-addresses
returns-clause-addresses c = λ file text h. (text_apart file text h).addresses

pub returns-clause-numbers : goal.returns-clause-numbers
returns-clause-numbers c = λ file text h. (text_apart file text h).numbers

pub returns-clause-names : goal.returns-clause-names
returns-clause-names c = λ file text h. (text_apart file text h).names

pub returns-clause-promises : goal.returns-clause-promises
returns-clause-promises c = λ file text h. (text_apart file text h).promise_names
