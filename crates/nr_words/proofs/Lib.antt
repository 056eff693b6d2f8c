mod GrammarLemmas
