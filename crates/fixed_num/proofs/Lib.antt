mod DigitLemmas
mod GrammarLemmas
mod PrintLemmas
mod QuotientLemmas
mod RoundingLemmas
mod TextLemmas
mod ValueLemmas
