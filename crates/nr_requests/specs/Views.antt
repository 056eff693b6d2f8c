-- What a request of the code stands for in the definitions.
use Rattle.std.specs.Prelude.{map, option_map}
use Rattle.nr_spec_commands.specs.Words as words
use Rattle.nr_evidence.specs.Views.{period_of}
use Rattle.nr_requests.specs.declared.request.AuditRequest as declared_audit
use Rattle.nr_requests.specs.declared.key_request.KeygenRequest as declared_keygen
use Rattle.nr_requests.specs.declared.request.CheckRequest as declared_check
use Rattle.nr_requests.specs.declared.record_request.RecordRequest as declared_record
use Rattle.nr_requests.specs.declared.answer_request.AnswerRequest as declared_answer
use Rattle.nr_requests.specs.declared.verify_request.VerifyRequest as declared_verify
use Rattle.nr_requests.specs.declared.collect_request.CollectRequest as declared_collect
use Rattle.nr_requests.specs.declared.request.Request.{Request}
use Rattle.nr_requests.specs.declared.request.Request.TheVariants as request

abbrev pub audit_request_of : declared_audit.AuditRequest → words.AuditRequest
audit_request_of q = record {
  root = q.root.0;
  promise = q.promise.now;
  answer = q.answer.now;
  auths = q.auths.now;
  period = period_of q.period;
  evidence = option_map (λ s. s.now) q.evidence;
}

abbrev pub keygen_request_of : declared_keygen.KeygenRequest → words.KeygenRequest
keygen_request_of q = record { asn = q.asn; height = q.height; seed = q.seed.now; key = q.key.now }

abbrev pub check_request_of : declared_check.CheckRequest → words.CheckRequest
check_request_of q = record { promise = q.promise.now }

abbrev pub record_request_of : declared_record.RecordRequest → words.RecordRequest
record_request_of q = record {
  promise = q.promise.now;
  key = q.key.now;
  log = q.log.now;
  until = q.until;
  files = map (λ s. s.now) q.files.items;
}

abbrev pub answer_request_of : declared_answer.AnswerRequest → words.AnswerRequest
answer_request_of q = record { key = q.key.now; log = q.log.now; out = q.out.now }

abbrev pub verify_request_of : declared_verify.VerifyRequest → words.VerifyRequest
verify_request_of q = record { root = q.root.0; evidence = q.evidence.now }

abbrev pub collect_request_of : declared_collect.CollectRequest → words.CollectRequest
collect_request_of q = record { frames = q.frames.now; asn = q.asn; out = q.out.now }

abbrev pub request_of : Request → words.Request
request_of (request.Audit q) = words.Audit (audit_request_of q)
request_of (request.Keygen q) = words.Keygen (keygen_request_of q)
request_of (request.Check q) = words.Check (check_request_of q)
request_of (request.Record q) = words.Record (record_request_of q)
request_of (request.Answer q) = words.Answer (answer_request_of q)
request_of (request.Verify q) = words.Verify (verify_request_of q)
request_of (request.Collect q) = words.Collect (collect_request_of q)
