mod VarintLemmas
mod FieldLemmas
mod OneReading
mod RoundTrip
