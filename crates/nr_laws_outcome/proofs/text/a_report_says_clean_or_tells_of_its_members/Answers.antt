use Rattle.nr_laws_outcome.proofs.Said.{clean_is_alone, no_member_says_clean, says_clean, says_lines}
use Rattle.nr_laws_outcome.proofs.text.a_report_says_clean_or_tells_of_its_members.Goals as goal

pub returns-clause-clean : goal.returns-clause-clean
returns-clause-clean c = says_clean

pub returns-clause-members : goal.returns-clause-members
returns-clause-members c = says_lines

pub returns-clause-clean_alone : goal.returns-clause-clean_alone
returns-clause-clean_alone c = clean_is_alone

pub returns-clause-no_member_is_clean : goal.returns-clause-no_member_is_clean
returns-clause-no_member_is_clean c = no_member_says_clean
